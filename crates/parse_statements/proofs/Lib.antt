mod PlainLaws
mod Begins
pub mod BlockLaws
mod Handled
pub mod LogicValues
pub mod ModelLexer
pub mod ParseExpressions
pub mod ParseActions
