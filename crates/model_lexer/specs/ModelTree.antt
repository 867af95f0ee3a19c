pub use Rattle.model_tree.specs.Stops as Stops
pub use Rattle.model_tree.specs.Tree as Tree
pub use Rattle.model_tree.specs.Views as Views
pub use Rattle.model_tree.specs.Vocabulary as Vocabulary
pub use Rattle.model_tree.specs.declared as declared
