pub use Rattle.code_rules.specs.ModelTree.Stops as Stops
pub use Rattle.code_rules.specs.ModelTree.declared as declared
