pub use Rattle.sim_time.specs.declared as declared
pub use Rattle.sim_time.specs.Times as Times
