pub mod Bodies
pub mod Marks
pub mod KernelBodies
pub mod ProcessState
