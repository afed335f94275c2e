pub mod Lines
pub mod Words
pub mod Sheets
pub mod Games
pub mod Exits
pub mod Rows
pub mod Runs
