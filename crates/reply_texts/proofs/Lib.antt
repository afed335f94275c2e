pub mod Keeping
pub mod Shown
