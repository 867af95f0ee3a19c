pub use Rattle.sim_model.specs.QuantumKeeper.Keepers as Keepers
pub use Rattle.sim_model.specs.QuantumKeeper.declared as declared
