pub use Rattle.kernel_state.specs.KernelTransactions.Answers as Answers
pub use Rattle.kernel_state.specs.KernelTransactions.Board as Board
pub use Rattle.kernel_state.specs.KernelTransactions.Hops as Hops
pub use Rattle.kernel_state.specs.KernelTransactions.declared as declared
