pub use Rattle.kernel_processes.specs.QuantumKeeper.Keepers as Keepers
