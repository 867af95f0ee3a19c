pub mod Parse
pub mod SimTime
pub mod LogicValues
pub mod ModelLexer
pub mod ParseExpressions
pub mod ParseActions
