pub mod Entries
pub mod Room
pub mod Shape
pub mod Nodes
pub mod Layout
