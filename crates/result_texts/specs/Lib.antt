pub mod Lines
pub mod Refusals
pub mod KindWords
pub mod ErrLines
