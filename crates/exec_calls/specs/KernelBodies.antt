pub use Rattle.exec_data.specs.KernelBodies.Layers as Layers
