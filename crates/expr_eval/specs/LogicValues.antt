pub use Rattle.sim_model.specs.LogicValues.Integers as Integers
pub use Rattle.sim_model.specs.LogicValues.declared as declared
