pub use Rattle.kernel_view.specs.KernelProcesses.InstanceViews as InstanceViews
pub use Rattle.kernel_view.specs.KernelProcesses.Moved as Moved
pub use Rattle.kernel_view.specs.KernelProcesses.Moves as Moves
pub use Rattle.kernel_view.specs.KernelProcesses.Sound as Sound
pub use Rattle.kernel_view.specs.KernelProcesses.Woken as Woken
pub use Rattle.kernel_view.specs.KernelProcesses.declared as declared
