pub mod Agreeing
pub mod Answering
pub mod Flipping
pub mod Racking
