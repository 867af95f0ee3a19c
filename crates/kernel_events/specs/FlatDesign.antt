pub use Rattle.sim_model.specs.FlatDesign.declared as declared
