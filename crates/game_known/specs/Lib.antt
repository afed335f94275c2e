pub mod Known
pub mod Copying
pub mod Besides
