pub use Rattle.kernel_processes.specs.ReadySet.Layout as Layout
pub use Rattle.kernel_processes.specs.ReadySet.Ready as Ready
