pub mod Joined
pub mod ReadBack
pub mod Objects
pub mod Escapes
pub mod TabReadBack
pub mod Cuts
