pub mod BestLaws
pub mod Reportings
