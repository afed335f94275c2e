pub mod Sinks
pub mod Ranks
pub mod Laws
pub mod Legals
pub mod Skips
