pub use Rattle.model_lexer.specs.Expressions as Expressions
pub use Rattle.model_lexer.specs.Forms as Forms
pub use Rattle.model_lexer.specs.Meanings as Meanings
pub use Rattle.model_lexer.specs.Reads as Reads
