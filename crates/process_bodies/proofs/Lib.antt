pub mod Places
pub mod Showing
pub mod Found
pub mod KernelBodies
