pub mod Parsers
pub mod OneToken
pub mod Sound
pub mod Complete
pub mod Many
pub mod Descent
pub mod LogicValues
pub mod ModelLexer
