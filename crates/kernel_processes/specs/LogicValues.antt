pub use Rattle.sim_model.specs.LogicValues.ValueText as ValueText
pub use Rattle.sim_model.specs.LogicValues.declared as declared
