pub use Rattle.kernel_events.specs.Numbered as Numbered
