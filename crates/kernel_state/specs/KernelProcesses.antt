pub use Rattle.kernel_processes.specs.InstanceViews as InstanceViews
pub use Rattle.kernel_processes.specs.Moved as Moved
pub use Rattle.kernel_processes.specs.Moves as Moves
pub use Rattle.kernel_processes.specs.Sound as Sound
pub use Rattle.kernel_processes.specs.Times as Times
pub use Rattle.kernel_processes.specs.Woken as Woken
pub use Rattle.kernel_processes.specs.declared as declared
