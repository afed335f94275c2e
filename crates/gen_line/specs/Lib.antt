pub mod Entries
pub mod Cells
pub mod Moves
pub mod Model
pub mod Walk
pub mod Laws
