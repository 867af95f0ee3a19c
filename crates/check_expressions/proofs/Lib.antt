mod Digits
mod Forms
pub mod ModelRules
