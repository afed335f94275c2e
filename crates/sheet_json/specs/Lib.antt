pub mod Audits
pub mod Boards
pub mod Rulings
