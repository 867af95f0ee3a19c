pub use Rattle.kernel_view.specs.SignalChannel.Signals as Signals
pub use Rattle.kernel_view.specs.SignalChannel.declared as declared
