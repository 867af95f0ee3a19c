pub use Rattle.process_bodies.specs.Bodies as Bodies
pub use Rattle.process_bodies.specs.declared as declared
