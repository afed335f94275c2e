pub mod Chains
pub mod Counts
pub mod Walks
