pub mod TurnLaws
pub mod TableLaws
