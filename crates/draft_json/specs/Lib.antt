pub mod Faults
pub mod Fills
pub mod Nexts
