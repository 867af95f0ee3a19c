pub use Rattle.sim_model.specs.ModelTree.declared as declared
