pub mod Bests
pub mod Reportings
