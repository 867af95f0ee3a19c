pub use Rattle.kernel_view.specs.TransportPhases.History as History
pub use Rattle.kernel_view.specs.TransportPhases.Phases as Phases
pub use Rattle.kernel_view.specs.TransportPhases.Rows as Rows
pub use Rattle.kernel_view.specs.TransportPhases.declared as declared
