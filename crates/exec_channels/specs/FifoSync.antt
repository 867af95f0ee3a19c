pub use Rattle.kernel_view.specs.FifoSync.Fifos as Fifos
pub use Rattle.kernel_view.specs.FifoSync.Locks as Locks
