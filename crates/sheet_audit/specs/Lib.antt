pub mod Corrected
pub mod Standing
pub mod Reported
pub mod Numbers
pub mod Lines
pub mod Answers
pub mod Wrong
