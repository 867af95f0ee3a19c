pub mod Shown
pub mod Stopped
pub mod KernelBodies
pub mod KernelProcesses
pub mod KernelTransactions
pub mod KernelState
pub mod Within
