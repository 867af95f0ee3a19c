pub mod Picked
pub mod Quiet
pub mod Scripted
pub mod Choices
pub mod Turns
pub mod Evaluated
pub mod Ruled
pub mod Several
