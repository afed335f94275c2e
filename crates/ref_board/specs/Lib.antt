pub mod Lines
pub mod Cells
pub mod Runs
pub mod Anchors
