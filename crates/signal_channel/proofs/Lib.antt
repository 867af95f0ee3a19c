mod Differences
pub mod LogicValues
