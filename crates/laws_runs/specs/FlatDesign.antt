pub use Rattle.sim_model.specs.FlatDesign.Code as Code
pub use Rattle.sim_model.specs.FlatDesign.Denotes as Denotes
pub use Rattle.sim_model.specs.FlatDesign.Facts as Facts
pub use Rattle.sim_model.specs.FlatDesign.Reach as Reach
pub use Rattle.sim_model.specs.FlatDesign.Sound as Sound
pub use Rattle.sim_model.specs.FlatDesign.Typed as Typed
pub use Rattle.sim_model.specs.FlatDesign.ValueTypes as ValueTypes
pub use Rattle.sim_model.specs.FlatDesign.declared as declared
