pub use Rattle.kernel_state.specs.Kernel as Kernel
pub use Rattle.kernel_state.specs.Moves as Moves
pub use Rattle.kernel_state.specs.Processes as Processes
pub use Rattle.kernel_state.specs.Spawned as Spawned
pub use Rattle.kernel_state.specs.Stopping as Stopping
pub use Rattle.kernel_state.specs.Ways as Ways
pub use Rattle.kernel_state.specs.declared as declared
