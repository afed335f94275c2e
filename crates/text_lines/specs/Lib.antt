pub mod Lines
pub mod Fields
pub mod Numerals
pub mod Fronts
