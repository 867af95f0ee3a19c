mod Acts
mod Parts
pub mod ModelRules
