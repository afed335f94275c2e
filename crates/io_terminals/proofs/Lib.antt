pub mod Steps
pub mod NoControl
