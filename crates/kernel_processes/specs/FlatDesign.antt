pub use Rattle.sim_model.specs.FlatDesign.Code as Code
pub use Rattle.sim_model.specs.FlatDesign.Reach as Reach
pub use Rattle.sim_model.specs.FlatDesign.declared as declared
