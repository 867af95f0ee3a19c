pub use Rattle.sim_model.specs.TransportPhases.History as History
pub use Rattle.sim_model.specs.TransportPhases.declared as declared
