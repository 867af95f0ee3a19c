pub mod Reached
pub mod KernelPhases
