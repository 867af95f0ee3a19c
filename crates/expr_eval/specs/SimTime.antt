pub use Rattle.sim_model.specs.SimTime.declared as declared
