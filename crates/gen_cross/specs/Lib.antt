pub mod Values
pub mod Paths
pub mod CrossRuns
pub mod Laws
pub mod Changes
pub mod Following
