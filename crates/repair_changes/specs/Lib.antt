pub mod Splices
pub mod TileCounts
pub mod Applied
pub mod Differences
pub mod Weights
pub mod Laws
pub mod Spots
pub mod Numbers
