pub use Rattle.quantum_keeper.specs.SimTime.Times as Times
pub use Rattle.quantum_keeper.specs.SimTime.declared as declared
