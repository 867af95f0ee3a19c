pub use Rattle.kernel_state.specs.KernelBodies.declared as declared
