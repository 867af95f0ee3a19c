pub use Rattle.sim_model.proofs.LogicValues.VectorLaws as VectorLaws
