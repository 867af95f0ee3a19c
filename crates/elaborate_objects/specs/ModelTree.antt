pub use Rattle.check_names.specs.ModelTree.Limits as Limits
pub use Rattle.check_names.specs.ModelTree.Lines as Lines
pub use Rattle.check_names.specs.ModelTree.Tree as Tree
pub use Rattle.check_names.specs.ModelTree.Views as Views
pub use Rattle.check_names.specs.ModelTree.WholeTree as WholeTree
pub use Rattle.check_names.specs.ModelTree.declared as declared
