pub use Rattle.fifo_sync.specs.Fifos as Fifos
pub use Rattle.fifo_sync.specs.Locks as Locks
