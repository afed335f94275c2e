pub mod Same
pub mod Repaired
pub mod Least
