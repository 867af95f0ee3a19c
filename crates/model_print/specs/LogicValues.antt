pub use Rattle.model_tree.specs.LogicValues.Digits as Digits
pub use Rattle.model_tree.specs.LogicValues.ValueText as ValueText
pub use Rattle.model_tree.specs.LogicValues.declared as declared
