pub mod SheetLaws
pub mod Replying
