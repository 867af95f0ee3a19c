pub use Rattle.sim_model.specs.TransportPhases.History as History
pub use Rattle.sim_model.specs.TransportPhases.Phases as Phases
pub use Rattle.sim_model.specs.TransportPhases.Rows as Rows
pub use Rattle.sim_model.specs.TransportPhases.declared as declared
