pub use Rattle.sim_model.specs.PayloadPool.Transfer as Transfer
pub use Rattle.sim_model.specs.PayloadPool.declared as declared
