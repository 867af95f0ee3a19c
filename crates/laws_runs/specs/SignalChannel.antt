pub use Rattle.sim_model.specs.SignalChannel.Drivers as Drivers
pub use Rattle.sim_model.specs.SignalChannel.Signals as Signals
pub use Rattle.sim_model.specs.SignalChannel.declared as declared
