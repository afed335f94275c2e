pub mod Ranking
pub mod RankOrder
pub mod Keeping
pub mod Skipping
pub mod Turns
pub mod AnyOrder
