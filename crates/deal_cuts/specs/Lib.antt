pub mod Cutting
pub mod Flowing
pub mod Laws
