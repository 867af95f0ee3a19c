pub use Rattle.kernel_view.specs.TransportPhases.History as History
pub use Rattle.kernel_view.specs.TransportPhases.declared as declared
