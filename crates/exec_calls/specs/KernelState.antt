pub use Rattle.exec_data.specs.KernelState.Kernel as Kernel
pub use Rattle.exec_data.specs.KernelState.Moves as Moves
pub use Rattle.exec_data.specs.KernelState.Stopping as Stopping
pub use Rattle.exec_data.specs.KernelState.declared as declared
