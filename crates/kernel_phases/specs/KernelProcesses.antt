pub use Rattle.kernel_state.specs.KernelProcesses.InstanceViews as InstanceViews
pub use Rattle.kernel_state.specs.KernelProcesses.Moved as Moved
pub use Rattle.kernel_state.specs.KernelProcesses.Sound as Sound
pub use Rattle.kernel_state.specs.KernelProcesses.declared as declared
