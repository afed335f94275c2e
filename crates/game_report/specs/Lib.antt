pub mod BestPlays
pub mod EventLines
pub mod TopPlays
pub mod Beside
