pub mod Numbers
pub mod Having
pub mod Texts
pub mod Laws
pub mod Lacks
pub mod Counting
