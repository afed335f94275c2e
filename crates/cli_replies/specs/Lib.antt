pub mod Forms
pub mod Asked
