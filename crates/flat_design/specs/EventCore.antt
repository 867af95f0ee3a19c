pub use Rattle.event_core.specs.Ev as Ev
pub use Rattle.event_core.specs.Notifications as Notifications
pub use Rattle.event_core.specs.contracts as contracts
pub use Rattle.event_core.specs.declared as declared
