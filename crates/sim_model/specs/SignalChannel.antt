pub use Rattle.signal_channel.specs.Drivers as Drivers
pub use Rattle.signal_channel.specs.Signals as Signals
pub use Rattle.signal_channel.specs.contracts as contracts
pub use Rattle.signal_channel.specs.declared as declared
