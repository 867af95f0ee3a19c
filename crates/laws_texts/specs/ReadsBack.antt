-- That a text reads as a given tree but for line numbers.
use Rattle.std.specs.Prelude.{ℕ, List}
use Rattle.model_print.specs.ModelTree.Tree as tree
use Rattle.model_lexer.specs.Reads.{Reads}
use Rattle.laws_texts.specs.Unlined.{SameButLines}

-- the text reads as a tree that is this one but for line numbers
abbrev pub ReadsBack : List ℕ → tree.Source → Type 0
ReadsBack text x = (y : tree.Source) × Reads text y × SameButLines x y
