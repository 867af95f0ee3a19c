pub use Rattle.exec_data.specs.QuantumKeeper.Keepers as Keepers
