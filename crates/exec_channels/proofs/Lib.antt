pub mod Stored
pub mod Trying
pub mod TriedMutexes
pub mod TriedSemaphores
pub mod TriedFifos
pub mod KernelBodies
pub mod KernelProcesses
pub mod KernelState
