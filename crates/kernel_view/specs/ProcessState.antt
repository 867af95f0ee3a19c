pub use Rattle.kernel_state.specs.ProcessState.declared as declared
