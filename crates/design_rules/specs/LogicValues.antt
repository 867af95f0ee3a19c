pub use Rattle.code_rules.specs.LogicValues.Planes as Planes
pub use Rattle.code_rules.specs.LogicValues.declared as declared
