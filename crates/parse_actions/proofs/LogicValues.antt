pub use Rattle.parse_expressions.proofs.LogicValues.VectorLaws as VectorLaws
