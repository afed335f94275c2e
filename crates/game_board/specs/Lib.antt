pub mod Places
pub mod Laying
pub mod Marks
pub mod Tiles
pub mod Texts
