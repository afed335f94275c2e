pub mod Words
pub mod Values
pub mod Kinds
pub mod Players
pub mod Faults
pub mod Verdicts
pub mod Refusals
