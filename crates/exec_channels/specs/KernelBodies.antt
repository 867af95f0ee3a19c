pub use Rattle.kernel_view.specs.KernelBodies.Around as Around
pub use Rattle.kernel_view.specs.KernelBodies.Depths as Depths
pub use Rattle.kernel_view.specs.KernelBodies.Layers as Layers
pub use Rattle.kernel_view.specs.KernelBodies.declared as declared
