pub use Rattle.model_tree.proofs.LogicValues.VectorLaws as VectorLaws
