pub use Rattle.flat_design.specs.ModelTree.declared as declared
