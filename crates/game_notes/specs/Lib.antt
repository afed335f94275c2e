pub mod Keeping
pub mod Tops
pub mod Following
pub mod Latest
