pub use Rattle.expr_eval.specs.LogicValues.Integers as Integers
pub use Rattle.expr_eval.specs.LogicValues.declared as declared
