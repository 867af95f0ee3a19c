pub mod Bodies
pub mod KernelBodies
