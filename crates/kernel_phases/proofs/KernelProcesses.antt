pub use Rattle.kernel_state.proofs.KernelProcesses.Wakes as Wakes
