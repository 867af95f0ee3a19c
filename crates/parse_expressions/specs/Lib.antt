pub mod Cursor
pub mod Parse
pub mod SimTime
pub mod LogicValues
pub mod ModelLexer
