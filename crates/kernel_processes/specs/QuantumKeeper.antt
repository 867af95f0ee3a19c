pub use Rattle.sim_model.specs.QuantumKeeper.Keepers as Keepers
