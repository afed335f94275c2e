pub mod Corrected
pub mod Found
pub mod Wrong
pub mod Racks
pub mod Ahead
pub mod FurthestStops
pub mod LastLines
