pub use Rattle.exec_events.specs.Numbers as Numbers
