pub use Rattle.model_lexer.specs.SimTime.declared as declared
