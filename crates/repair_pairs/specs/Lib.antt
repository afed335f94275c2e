pub mod Made
pub mod Pairs
pub mod Finding
pub mod Chains
pub mod Totals
pub mod Spots
