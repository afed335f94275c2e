pub mod Lines
pub mod Faults
pub mod Words
pub mod Lists
pub mod RotatedPaths
pub mod Laws
pub mod WordSets
