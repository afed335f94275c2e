pub mod Repaired
pub mod Sheets
pub mod Pages
