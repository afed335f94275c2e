pub mod CheckLaws
pub mod FirstBadLaws
pub mod Rows
