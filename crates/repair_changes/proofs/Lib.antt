pub mod Fronts
pub mod Splicing
pub mod Differing
pub mod Examples
pub mod LastLines
