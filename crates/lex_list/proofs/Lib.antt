pub mod Orders
pub mod Steps
pub mod Meanings
pub mod RotatedPaths
pub mod Splitting
mod Examples
pub mod Rows
