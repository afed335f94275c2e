pub mod Renumbering
pub mod RowLaws
pub mod Steps
pub mod WalkLaws
pub mod WrongRows
pub mod WholeAudits
