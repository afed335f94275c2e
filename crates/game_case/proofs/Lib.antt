pub mod FoundGames
pub mod AuditedRecords
pub mod WalkedRecords
