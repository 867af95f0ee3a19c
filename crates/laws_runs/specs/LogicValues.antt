pub use Rattle.sim_model.specs.LogicValues.Digits as Digits
pub use Rattle.sim_model.specs.LogicValues.Integers as Integers
pub use Rattle.sim_model.specs.LogicValues.SameValue as SameValue
pub use Rattle.sim_model.specs.LogicValues.declared as declared
