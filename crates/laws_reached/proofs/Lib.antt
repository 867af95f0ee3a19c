pub mod Counted
pub mod CountedRuns
pub mod Reaching
pub mod KernelCounts
pub mod Kernels
pub mod Standing
pub mod Fresh
pub mod Unwinding
