pub use Rattle.kernel_processes.proofs.OtherBody as OtherBody
pub use Rattle.kernel_processes.proofs.Sounding as Sounding
pub use Rattle.kernel_processes.proofs.Wakes as Wakes
