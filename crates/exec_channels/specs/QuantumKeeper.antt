pub use Rattle.kernel_view.specs.QuantumKeeper.Keepers as Keepers
pub use Rattle.kernel_view.specs.QuantumKeeper.declared as declared
