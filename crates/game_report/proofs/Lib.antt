pub mod ReportLines
pub mod Examples
pub mod TopLines
pub mod Fronts
pub mod BoardSteps
pub mod BesideLaws
