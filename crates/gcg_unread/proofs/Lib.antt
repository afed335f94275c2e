pub mod OneLine
pub mod Steps
pub mod PassedOver
