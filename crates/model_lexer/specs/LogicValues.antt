pub use Rattle.model_tree.specs.LogicValues.Digits as Digits
pub use Rattle.model_tree.specs.LogicValues.Planes as Planes
pub use Rattle.model_tree.specs.LogicValues.declared as declared
