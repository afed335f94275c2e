pub mod Rulings
pub mod Kept
pub mod Words
pub mod Bodies
pub mod Objects
pub mod Cases
