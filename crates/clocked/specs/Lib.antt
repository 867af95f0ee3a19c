pub mod Words
pub mod Parts
pub mod Expanded
pub mod Turns
pub mod Views
