pub use Rattle.kernel_bodies.specs.Around as Around
pub use Rattle.kernel_bodies.specs.Depths as Depths
pub use Rattle.kernel_bodies.specs.Layers as Layers
pub use Rattle.kernel_bodies.specs.Room as Room
pub use Rattle.kernel_bodies.specs.Strip as Strip
pub use Rattle.kernel_bodies.specs.declared as declared
