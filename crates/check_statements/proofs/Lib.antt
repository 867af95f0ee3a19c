pub mod Behind
mod Passed
pub mod Pieces
mod Tables
pub mod Found
pub mod Blocks
