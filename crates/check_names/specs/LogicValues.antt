pub use Rattle.model_rules.specs.LogicValues.Digits as Digits
pub use Rattle.model_rules.specs.LogicValues.Integers as Integers
pub use Rattle.model_rules.specs.LogicValues.declared as declared
