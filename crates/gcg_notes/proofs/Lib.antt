pub mod Events
pub mod Walks
pub mod Lines
pub mod Feeds
pub mod Texts
pub mod Rounds
