pub use Rattle.kernel_processes.specs.LogicValues.ValueText as ValueText
pub use Rattle.kernel_processes.specs.LogicValues.declared as declared
