pub mod Words
pub mod Laws
pub mod Texts
pub mod Spots
pub mod Totals
pub mod Lines
pub mod Plays
pub mod Boards
