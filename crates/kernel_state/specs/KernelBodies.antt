pub use Rattle.process_bodies.specs.KernelBodies.Around as Around
pub use Rattle.process_bodies.specs.KernelBodies.Depths as Depths
pub use Rattle.process_bodies.specs.KernelBodies.Layers as Layers
pub use Rattle.process_bodies.specs.KernelBodies.Room as Room
pub use Rattle.process_bodies.specs.KernelBodies.Strip as Strip
pub use Rattle.process_bodies.specs.KernelBodies.declared as declared
