-- That a text reads as a given tree but for line numbers, and is printed again of what was read.
use Rattle.std.specs.Prelude.{◌≡◌, ℕ, List}
use Rattle.model_print.specs.ModelTree.Tree as tree
use Rattle.model_print.specs.Printed.{printed_text}
use Rattle.model_lexer.specs.Reads.{Reads}
use Rattle.laws_texts.specs.Unlined.{SameButLines}

-- the text reads as a tree that is this one but for line numbers, and of which the same bytes are printed
abbrev pub PrintsAgain : List ℕ → tree.Source → Type 0
PrintsAgain text x = (y : tree.Source) × Reads text y × SameButLines x y × (printed_text y ≡ text)
