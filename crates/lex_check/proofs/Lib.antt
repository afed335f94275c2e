pub mod Held
pub mod Firsts
pub mod RemainingStrings
pub mod Stretches
pub mod Rotations
pub mod Agreements
mod Examples
