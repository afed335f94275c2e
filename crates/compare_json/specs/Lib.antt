pub mod Names
pub mod Choices
pub mod Differences
pub mod Answers
