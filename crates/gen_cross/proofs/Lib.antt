pub mod Backwards
pub mod MaskLaws
pub mod SideLaws
pub mod ValueLaws
pub mod RunsWith
pub mod Steps
pub mod Filling
pub mod CrossLaws
pub mod Renewing
pub mod PlayTiles
pub mod OneCross
mod Examples
