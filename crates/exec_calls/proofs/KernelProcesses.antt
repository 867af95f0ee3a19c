pub use Rattle.exec_data.proofs.KernelProcesses.Wakes as Wakes
