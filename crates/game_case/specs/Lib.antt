pub mod Archiving
pub mod Settling
pub mod WalkedEntries
pub mod Auditing
pub mod Explaining
