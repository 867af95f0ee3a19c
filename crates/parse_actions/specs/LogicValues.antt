pub use Rattle.parse_expressions.specs.LogicValues.Digits as Digits
pub use Rattle.parse_expressions.specs.LogicValues.Planes as Planes
pub use Rattle.parse_expressions.specs.LogicValues.declared as declared
