pub mod Alike
pub mod Aligned
pub mod Merged
pub mod Made
pub mod MergedLacks
