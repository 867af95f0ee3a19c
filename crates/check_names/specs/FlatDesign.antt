pub use Rattle.model_rules.specs.FlatDesign.Code as Code
pub use Rattle.model_rules.specs.FlatDesign.Denotes as Denotes
pub use Rattle.model_rules.specs.FlatDesign.Sound as Sound
pub use Rattle.model_rules.specs.FlatDesign.Typed as Typed
pub use Rattle.model_rules.specs.FlatDesign.ValueTypes as ValueTypes
pub use Rattle.model_rules.specs.FlatDesign.declared as declared
