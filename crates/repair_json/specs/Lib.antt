pub mod Slips
pub mod Evidence
pub mod Changes
pub mod Pairs
pub mod Chains
pub mod Sheets
pub mod Answers
pub mod BadRecords
