pub use Rattle.parse_actions.specs.LogicValues.Digits as Digits
pub use Rattle.parse_actions.specs.LogicValues.Planes as Planes
pub use Rattle.parse_actions.specs.LogicValues.declared as declared
