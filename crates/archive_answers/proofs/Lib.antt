pub mod Greatest
pub mod Keeping
pub mod Reporting
pub mod Running
