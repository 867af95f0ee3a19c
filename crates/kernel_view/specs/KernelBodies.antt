pub use Rattle.kernel_state.specs.KernelBodies.Around as Around
pub use Rattle.kernel_state.specs.KernelBodies.Depths as Depths
pub use Rattle.kernel_state.specs.KernelBodies.Layers as Layers
pub use Rattle.kernel_state.specs.KernelBodies.Room as Room
pub use Rattle.kernel_state.specs.KernelBodies.Strip as Strip
pub use Rattle.kernel_state.specs.KernelBodies.declared as declared
