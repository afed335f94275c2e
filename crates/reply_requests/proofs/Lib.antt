pub mod Examples
pub mod Named
pub mod Nulls
pub mod Texts
pub mod NoTexts
pub mod Keys
pub mod Refused
