pub use Rattle.kernel_state.proofs.KernelTransactions.Histories as Histories
