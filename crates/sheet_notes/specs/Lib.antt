pub mod Texts
pub mod Notes
