pub use Rattle.kernel_processes.specs.SignalChannel.Drivers as Drivers
pub use Rattle.kernel_processes.specs.SignalChannel.Signals as Signals
pub use Rattle.kernel_processes.specs.SignalChannel.declared as declared
