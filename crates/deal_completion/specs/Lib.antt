pub mod Completion
pub mod Taking
pub mod Plain
