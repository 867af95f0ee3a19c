pub use Rattle.sim_model.specs.Calls as Calls
pub use Rattle.sim_model.specs.Control as Control
pub use Rattle.sim_model.specs.Reading as Reading
pub use Rattle.sim_model.specs.Residual as Residual
pub use Rattle.sim_model.specs.Storing as Storing
pub use Rattle.sim_model.specs.Unwinding as Unwinding
pub use Rattle.sim_model.specs.Waits as Waits
pub use Rattle.sim_model.specs.declared as declared
