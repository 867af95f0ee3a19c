pub use Rattle.kernel_state.specs.EventCore.declared as declared
