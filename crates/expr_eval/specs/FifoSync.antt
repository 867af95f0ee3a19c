pub use Rattle.sim_model.specs.FifoSync.Fifos as Fifos
pub use Rattle.sim_model.specs.FifoSync.Locks as Locks
