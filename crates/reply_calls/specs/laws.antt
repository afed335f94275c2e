-- Proofs that the laws of impls need here.
pub mod Later
