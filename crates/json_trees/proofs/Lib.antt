pub mod Views
pub mod Tokens
pub mod ReadBack
pub mod OneLine
pub mod Wide
pub mod Lists
