pub use Rattle.kernel_view.specs.KernelProcesses.InstanceViews as InstanceViews
pub use Rattle.kernel_view.specs.KernelProcesses.declared as declared
