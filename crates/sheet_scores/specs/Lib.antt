pub mod Gains
pub mod Pictures
pub mod Boards
pub mod Positions
pub mod Unders
pub mod Rows
pub mod Sums
pub mod Sheets
