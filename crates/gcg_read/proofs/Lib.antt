pub mod Lists
pub mod AlikeLists
pub mod Cuts
pub mod Steps
pub mod Fields
pub mod FirstFaults
pub mod LinesRise
pub mod Examples
