pub mod PileLaws
pub mod OpenerLaws
pub mod Refills
pub mod EpochLaws
pub mod KnownLaws
pub mod FitLaws
pub mod FitBounds
pub mod Examples
