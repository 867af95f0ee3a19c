pub use Rattle.sim_model.specs.Channels as Channels
pub use Rattle.sim_model.specs.Configuration as Configuration
pub use Rattle.sim_model.specs.Phases as Phases
pub use Rattle.sim_model.specs.Reading as Reading
