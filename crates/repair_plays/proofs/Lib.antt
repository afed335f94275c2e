pub mod Legal
pub mod Pushed
