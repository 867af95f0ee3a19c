pub mod Upward
pub mod Stands
pub mod PathTexts
