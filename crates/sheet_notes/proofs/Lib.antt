pub mod NextPlays
pub mod NoteSteps
