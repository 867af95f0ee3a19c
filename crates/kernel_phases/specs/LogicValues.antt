pub use Rattle.kernel_state.specs.LogicValues.declared as declared
