pub mod Numbers
pub mod Refusals
pub mod Taking
pub mod Rows
pub mod Walks
pub mod Totals
