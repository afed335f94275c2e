pub mod Devices
pub mod Inputs
pub mod Outputs
