pub use Rattle.kernel_state.proofs.KernelProcesses.OtherBody as OtherBody
pub use Rattle.kernel_state.proofs.KernelProcesses.Sounding as Sounding
pub use Rattle.kernel_state.proofs.KernelProcesses.Wakes as Wakes
