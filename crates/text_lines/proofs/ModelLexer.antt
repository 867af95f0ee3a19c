pub use Rattle.model_lexer.proofs.LogicDigits as LogicDigits
