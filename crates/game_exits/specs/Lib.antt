pub mod Exits
pub mod Audits
pub mod Cases
pub mod Archives
