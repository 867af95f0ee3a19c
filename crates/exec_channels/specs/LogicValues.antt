pub use Rattle.kernel_view.specs.LogicValues.Integers as Integers
pub use Rattle.kernel_view.specs.LogicValues.declared as declared
