pub use Rattle.sim_model.specs.FifoSync.Fifos as Fifos
