pub use Rattle.model_lexer.specs.LogicValues.Digits as Digits
pub use Rattle.model_lexer.specs.LogicValues.Planes as Planes
pub use Rattle.model_lexer.specs.LogicValues.declared as declared
