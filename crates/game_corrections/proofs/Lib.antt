pub mod Shapes
pub mod Numbers
pub mod Fronts
pub mod Mends
pub mod Sheets
pub mod Totals
