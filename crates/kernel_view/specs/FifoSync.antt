pub use Rattle.expr_eval.specs.FifoSync.Fifos as Fifos
pub use Rattle.expr_eval.specs.FifoSync.Locks as Locks
