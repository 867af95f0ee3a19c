pub use Rattle.kernel_transactions.proofs.Histories as Histories
