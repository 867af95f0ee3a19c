pub use Rattle.check_names.specs.FlatDesign.Code as Code
pub use Rattle.check_names.specs.FlatDesign.Denotes as Denotes
pub use Rattle.check_names.specs.FlatDesign.Sound as Sound
pub use Rattle.check_names.specs.FlatDesign.Typed as Typed
pub use Rattle.check_names.specs.FlatDesign.ValueTypes as ValueTypes
pub use Rattle.check_names.specs.FlatDesign.declared as declared
