pub mod Lacks
pub mod Texts
pub mod Drafts
pub mod Laws
