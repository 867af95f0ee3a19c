pub use Rattle.expr_eval.specs.ModelTree.declared as declared
