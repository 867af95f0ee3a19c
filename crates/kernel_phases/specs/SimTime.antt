pub use Rattle.kernel_state.specs.SimTime.declared as declared
