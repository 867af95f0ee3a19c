-- A whole tree as contracts speak of it.
use Rattle.model_tree.specs.Tree as tree
use Rattle.model_tree.specs.Views.{modules_of}
use Rattle.model_tree.specs.declared.whole.Tree.{Tree}

abbrev pub model_of : Tree → tree.Model
model_of t = record { modules = modules_of t.modules.items; top = t.top }

abbrev pub source_of : Tree → tree.Source
source_of t = record { head = t.head; model = model_of t }
