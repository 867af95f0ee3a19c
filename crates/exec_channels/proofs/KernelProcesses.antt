pub use Rattle.kernel_view.proofs.KernelProcesses.Wakes as Wakes
