pub use Rattle.model_rules.specs.ModelTree.Limits as Limits
pub use Rattle.model_rules.specs.ModelTree.Lines as Lines
pub use Rattle.model_rules.specs.ModelTree.Stops as Stops
pub use Rattle.model_rules.specs.ModelTree.Tree as Tree
pub use Rattle.model_rules.specs.ModelTree.Views as Views
pub use Rattle.model_rules.specs.ModelTree.WholeTree as WholeTree
pub use Rattle.model_rules.specs.ModelTree.contracts as contracts
pub use Rattle.model_rules.specs.ModelTree.declared as declared
