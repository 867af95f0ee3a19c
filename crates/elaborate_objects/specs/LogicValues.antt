pub use Rattle.design_rules.specs.LogicValues.Planes as Planes
pub use Rattle.design_rules.specs.LogicValues.declared as declared
