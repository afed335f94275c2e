pub mod Numbers
pub mod Laws
pub mod Fields
pub mod Lines
