pub mod Places
pub mod Notes
pub mod FirstRefused
pub mod Passed
pub mod Refusing
pub mod Showing
pub mod Ruling
pub mod Bounding
