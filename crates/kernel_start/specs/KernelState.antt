pub use Rattle.kernel_state.specs.Kernel as Kernel
pub use Rattle.kernel_state.specs.declared as declared
