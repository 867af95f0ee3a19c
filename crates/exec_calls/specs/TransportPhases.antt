pub use Rattle.exec_data.specs.TransportPhases.History as History
pub use Rattle.exec_data.specs.TransportPhases.Phases as Phases
pub use Rattle.exec_data.specs.TransportPhases.Rows as Rows
pub use Rattle.exec_data.specs.TransportPhases.declared as declared
