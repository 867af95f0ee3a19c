pub use Rattle.parse_actions.proofs.LogicValues.VectorLaws as VectorLaws
