pub use Rattle.exec_calls.specs.ExecEvents.Numbers as Numbers
