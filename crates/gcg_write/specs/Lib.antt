pub mod Fields
pub mod Normal
pub mod Rounds
