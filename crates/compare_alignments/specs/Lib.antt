pub mod Agreeing
pub mod Racks
pub mod Alignments
pub mod Fronts
pub mod Merging
pub mod Laws
pub mod Seats
pub mod Lacking
