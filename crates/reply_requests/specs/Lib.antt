pub mod Said
pub mod Asked
pub mod Reasons
pub mod Tasks
