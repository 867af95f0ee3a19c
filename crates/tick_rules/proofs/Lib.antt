mod Blocks
pub mod Same
pub mod Faultless
pub mod Refusals
