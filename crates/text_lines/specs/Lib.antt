pub mod Lines
pub mod Pieces
pub mod Words
pub mod LineForms
pub mod ModelLexer
pub mod ModelTree
