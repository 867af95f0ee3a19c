pub use Rattle.kernel_view.proofs.KernelTransactions.Histories as Histories
