pub mod Names
pub mod Named
pub mod Inputs
