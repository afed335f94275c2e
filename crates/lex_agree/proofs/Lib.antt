pub mod Pigeons
pub mod Paths
pub mod Splits
pub mod Bounds
pub mod Walking
pub mod Turned
