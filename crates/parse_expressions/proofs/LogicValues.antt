pub use Rattle.model_lexer.proofs.LogicValues.VectorLaws as VectorLaws
