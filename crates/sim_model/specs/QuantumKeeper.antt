pub use Rattle.quantum_keeper.specs.Keepers as Keepers
pub use Rattle.quantum_keeper.specs.declared as declared
