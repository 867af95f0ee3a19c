-- The place behind the statements of a block, while the block's own local variables are still visible.
use Rattle.model_tree.specs.Tree as tree
use Rattle.check_actions.specs.ModelRules.Scopes.{Scope, behind}

abbrev pub behind_all : tree.Block → Scope → Scope
behind_all tree.over s = s
behind_all (tree.then x xs) s = behind_all xs (behind x s)
