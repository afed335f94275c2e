pub mod Sums
pub mod Steps
pub mod Dropping
pub mod WordLaws
