pub use Rattle.kernel_state.specs.ProcessBodies.Bodies as Bodies
