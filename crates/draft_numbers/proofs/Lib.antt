pub mod Numbered
pub mod Whole
pub mod Examples
pub mod LackExamples
