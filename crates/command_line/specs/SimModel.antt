pub use Rattle.sim_model.specs.Clean as Clean
pub use Rattle.sim_model.specs.Configuration as Configuration
pub use Rattle.sim_model.specs.Runs as Runs
pub use Rattle.sim_model.specs.Steps as Steps
pub use Rattle.sim_model.specs.Transport as Transport
pub use Rattle.sim_model.specs.declared as declared
