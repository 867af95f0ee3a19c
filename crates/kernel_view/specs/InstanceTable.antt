pub use Rattle.kernel_state.specs.InstanceTable.declared as declared
