pub use Rattle.model_lexer.specs.ModelTree.Stops as Stops
pub use Rattle.model_lexer.specs.ModelTree.declared as declared
