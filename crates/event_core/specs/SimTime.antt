pub use Rattle.sim_time.specs.Times as Times
pub use Rattle.sim_time.specs.declared as declared
