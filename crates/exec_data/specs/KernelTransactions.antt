pub use Rattle.kernel_view.specs.KernelTransactions.Answers as Answers
pub use Rattle.kernel_view.specs.KernelTransactions.Board as Board
pub use Rattle.kernel_view.specs.KernelTransactions.Hops as Hops
pub use Rattle.kernel_view.specs.KernelTransactions.declared as declared
