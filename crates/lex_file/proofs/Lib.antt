pub mod Runs
pub mod Views
pub mod Checks
pub mod NodeLaws
pub mod Spellings
pub mod Walks
pub mod MaskRuns
pub mod MaskChecks
pub mod Trials
mod Examples
mod MaskExamples
