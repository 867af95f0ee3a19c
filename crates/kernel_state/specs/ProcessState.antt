pub use Rattle.process_bodies.specs.ProcessState.Bodies as Bodies
pub use Rattle.process_bodies.specs.ProcessState.declared as declared
