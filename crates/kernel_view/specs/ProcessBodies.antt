pub use Rattle.kernel_state.specs.ProcessBodies.Bodies as Bodies
pub use Rattle.kernel_state.specs.ProcessBodies.declared as declared
