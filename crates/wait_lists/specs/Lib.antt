pub mod Waits
pub mod Shown
pub mod Chains
pub mod Nodes
pub mod Layout
pub mod EventCore
