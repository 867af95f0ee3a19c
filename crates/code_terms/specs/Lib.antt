pub mod Parts
pub mod Channels
pub mod Statements
pub mod Names
pub mod Sources
pub mod ModelRules
pub mod CodeRules
pub mod CheckNames
