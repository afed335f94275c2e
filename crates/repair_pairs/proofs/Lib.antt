pub mod Windows
pub mod Examples
pub mod Firsts
pub mod Adding
pub mod Making
pub mod Likeliest
