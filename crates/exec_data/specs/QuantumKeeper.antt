pub use Rattle.kernel_view.specs.QuantumKeeper.Keepers as Keepers
