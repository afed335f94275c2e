pub mod SheetLaws
pub mod ShownCases
