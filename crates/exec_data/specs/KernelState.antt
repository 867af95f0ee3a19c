pub use Rattle.kernel_view.specs.KernelState.Kernel as Kernel
pub use Rattle.kernel_view.specs.KernelState.Moves as Moves
pub use Rattle.kernel_view.specs.KernelState.Processes as Processes
pub use Rattle.kernel_view.specs.KernelState.Spawned as Spawned
pub use Rattle.kernel_view.specs.KernelState.Stopping as Stopping
pub use Rattle.kernel_view.specs.KernelState.Ways as Ways
pub use Rattle.kernel_view.specs.KernelState.declared as declared
