pub mod Least
pub mod Nexts
