pub use Rattle.model_rules.specs.ModelTree.Leaves as Leaves
pub use Rattle.model_rules.specs.ModelTree.Limits as Limits
pub use Rattle.model_rules.specs.ModelTree.Lines as Lines
pub use Rattle.model_rules.specs.ModelTree.Parts as Parts
pub use Rattle.model_rules.specs.ModelTree.Stops as Stops
pub use Rattle.model_rules.specs.ModelTree.Tree as Tree
pub use Rattle.model_rules.specs.ModelTree.declared as declared
