pub mod Rounds
pub mod Steps
pub mod FirstBytes
pub mod Reported
pub mod Readings
pub mod Own
mod Examples
