pub mod Cuts
pub mod LineCuts
pub mod FieldCuts
pub mod Decimals
pub mod Fronts
pub mod Outputs
