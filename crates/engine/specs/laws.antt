-- Proofs that the laws of impls need here.
pub mod Verdicts
pub mod Judging
pub mod BestPlays
pub mod TurnPlays
