pub use Rattle.sim_model.specs.EventCore.Notifications as Notifications
pub use Rattle.sim_model.specs.EventCore.declared as declared
