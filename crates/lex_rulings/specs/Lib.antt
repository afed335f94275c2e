pub mod Asked
pub mod Rulings
