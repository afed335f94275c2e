pub mod LineLaws
pub mod AnchorLaws
pub mod Transposing
pub mod Examples
