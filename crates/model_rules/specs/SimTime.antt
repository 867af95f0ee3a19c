pub use Rattle.flat_design.specs.SimTime.Times as Times
pub use Rattle.flat_design.specs.SimTime.declared as declared
