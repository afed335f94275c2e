pub mod Mended
pub mod Read
pub mod Listed
pub mod Laid
pub mod Starts
