pub use Rattle.wait_lists.specs.EventCore.Notifications as Notifications
pub use Rattle.wait_lists.specs.EventCore.declared as declared
