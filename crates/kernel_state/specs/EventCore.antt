pub use Rattle.kernel_processes.specs.EventCore.Notifications as Notifications
pub use Rattle.kernel_processes.specs.EventCore.declared as declared
