pub mod Pragmas
pub mod Notes
pub mod Words
pub mod Encodings
pub mod Texts
