pub use Rattle.logic_values.proofs.VectorLaws as VectorLaws
