pub mod Places
pub mod Lines
pub mod Rounds
pub mod Ends
pub mod Names
pub mod Rewriting
pub mod Readings
pub mod Choosing
