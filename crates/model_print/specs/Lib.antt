pub mod Layout
pub mod Pieces
pub mod Leaves
pub mod Printed
pub mod SimTime
pub mod LogicValues
pub mod ModelTree
