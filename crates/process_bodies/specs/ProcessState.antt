pub use Rattle.process_state.specs.Bodies as Bodies
pub use Rattle.process_state.specs.declared as declared
