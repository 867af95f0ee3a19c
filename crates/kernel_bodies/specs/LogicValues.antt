pub use Rattle.sim_model.specs.LogicValues.declared as declared
