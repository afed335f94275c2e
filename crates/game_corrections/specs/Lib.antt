pub mod Corrections
pub mod Mending
pub mod Laws
pub mod LastTotals
pub mod Standings
pub mod WrongNumbers
pub mod Auditing
