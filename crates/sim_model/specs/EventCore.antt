pub use Rattle.flat_design.specs.EventCore.Ev as Ev
pub use Rattle.flat_design.specs.EventCore.Notifications as Notifications
pub use Rattle.flat_design.specs.EventCore.contracts as contracts
pub use Rattle.flat_design.specs.EventCore.declared as declared
