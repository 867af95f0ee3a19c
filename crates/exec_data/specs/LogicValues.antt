pub use Rattle.kernel_view.specs.LogicValues.declared as declared
