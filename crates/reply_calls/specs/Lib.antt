pub mod Endings
pub mod Sheets
pub mod Found
pub mod Calls
pub mod laws
