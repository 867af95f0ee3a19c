pub use Rattle.expr_eval.specs.SignalChannel.Drivers as Drivers
pub use Rattle.expr_eval.specs.SignalChannel.Signals as Signals
pub use Rattle.expr_eval.specs.SignalChannel.declared as declared
