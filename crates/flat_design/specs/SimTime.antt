pub use Rattle.event_core.specs.SimTime.Times as Times
pub use Rattle.event_core.specs.SimTime.declared as declared
