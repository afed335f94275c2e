pub mod Lists
pub mod RackLaws
pub mod TallyLaws
pub mod Allowed
pub mod NextTallies
pub mod PlaceLaws
pub mod Examples
mod SameLists
mod SameStates
