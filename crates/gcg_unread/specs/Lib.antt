pub mod Reasons
pub mod Readings
pub mod Moves
pub mod Lines
pub mod Faulty
pub mod Laws
