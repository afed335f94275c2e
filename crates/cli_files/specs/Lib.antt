pub mod laws
pub mod Digesting
pub mod Troubles
