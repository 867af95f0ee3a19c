pub mod Edges
pub mod Spreading
pub mod Flat
pub mod Sets
pub mod Findings
pub mod CheckNames
pub mod CheckExpressions
