pub mod Headlines
pub mod Settled
pub mod StayingLegal
pub mod FoundGames
pub mod BuiltFiles
pub mod ConvertedFiles
pub mod Toppings
pub mod ShownBoards
