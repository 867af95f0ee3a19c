pub use Rattle.model_tree.specs.SimTime.declared as declared
