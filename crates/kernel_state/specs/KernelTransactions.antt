pub use Rattle.kernel_transactions.specs.Answers as Answers
pub use Rattle.kernel_transactions.specs.Board as Board
pub use Rattle.kernel_transactions.specs.Hops as Hops
pub use Rattle.kernel_transactions.specs.declared as declared
