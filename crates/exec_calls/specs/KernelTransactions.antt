pub use Rattle.exec_data.specs.KernelTransactions.Answers as Answers
pub use Rattle.exec_data.specs.KernelTransactions.Board as Board
pub use Rattle.exec_data.specs.KernelTransactions.Hops as Hops
pub use Rattle.exec_data.specs.KernelTransactions.declared as declared
