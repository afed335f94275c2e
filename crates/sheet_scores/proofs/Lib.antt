pub mod WalkRows
pub mod GainLaws
pub mod SheetRows
pub mod BoardSteps
pub mod PositionSteps
pub mod SameTurns
