pub use Rattle.flat_design.specs.Blocking as Blocking
pub use Rattle.flat_design.specs.Code as Code
pub use Rattle.flat_design.specs.Denotes as Denotes
pub use Rattle.flat_design.specs.Reach as Reach
pub use Rattle.flat_design.specs.Sound as Sound
pub use Rattle.flat_design.specs.Typed as Typed
pub use Rattle.flat_design.specs.ValueTypes as ValueTypes
pub use Rattle.flat_design.specs.declared as declared
