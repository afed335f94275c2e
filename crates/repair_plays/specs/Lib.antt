pub mod Legal
pub mod PlayChanges
