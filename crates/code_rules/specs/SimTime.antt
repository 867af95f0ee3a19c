pub use Rattle.model_rules.specs.SimTime.Times as Times
pub use Rattle.model_rules.specs.SimTime.declared as declared
