pub mod Plays
pub mod Events
pub mod Games
