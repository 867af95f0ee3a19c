pub use Rattle.sim_model.specs.PayloadPool.declared as declared
