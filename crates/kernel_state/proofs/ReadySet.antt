pub use Rattle.kernel_processes.proofs.ReadySet.Rising as Rising
pub use Rattle.kernel_processes.proofs.ReadySet.Shown as Shown
