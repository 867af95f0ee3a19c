pub use Rattle.sim_model.specs.EventCore.Ev as Ev
pub use Rattle.sim_model.specs.EventCore.declared as declared
