pub mod Values
pub mod Trees
pub mod Texts
pub mod Laws
