pub mod Uses
pub mod ModelRules
pub mod CheckNames
pub mod CheckExpressions
