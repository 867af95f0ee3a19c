pub mod Sources
pub mod TickTrees
