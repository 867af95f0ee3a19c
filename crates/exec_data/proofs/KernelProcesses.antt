pub use Rattle.kernel_view.proofs.KernelProcesses.OtherBody as OtherBody
pub use Rattle.kernel_view.proofs.KernelProcesses.Sounding as Sounding
pub use Rattle.kernel_view.proofs.KernelProcesses.Wakes as Wakes
