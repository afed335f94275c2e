pub mod Explaining
pub mod Events
pub mod Judging
pub mod Openings
