pub use Rattle.expr_eval.specs.QuantumKeeper.Keepers as Keepers
pub use Rattle.expr_eval.specs.QuantumKeeper.declared as declared
