pub use Rattle.expr_eval.specs.EventCore.Ev as Ev
pub use Rattle.expr_eval.specs.EventCore.declared as declared
