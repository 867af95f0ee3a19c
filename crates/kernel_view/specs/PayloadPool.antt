pub use Rattle.expr_eval.specs.PayloadPool.Transfer as Transfer
pub use Rattle.expr_eval.specs.PayloadPool.declared as declared
