pub use Rattle.sim_model.specs.Configuration as Configuration
pub use Rattle.sim_model.specs.declared as declared
