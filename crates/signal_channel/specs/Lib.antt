pub mod Edges
pub mod Signals
pub mod Drivers
pub mod LogicValues
