-- That a text reads as a tree.
use Rattle.std.specs.Prelude.{ℕ, ◌≤◌, List, []}
use Rattle.model_tree.specs.Tree as tree
use Rattle.model_tree.specs.Limits.{bracket_limit}
use Rattle.model_lexer.specs.Languages.{in_language}
use Rattle.model_lexer.specs.Items.{DerivesSource}
use Rattle.model_lexer.specs.Brackets.{brackets}
use Rattle.model_lexer.specs.Cut.{Lexeme, Cut}
use Rattle.model_lexer.specs.Laws.{with_lines}

-- the text is cut into tokens, all of them, as its language has them, derive the tree, and no more brackets are open anywhere than
-- may be
abbrev pub Reads : List ℕ → tree.Source → Type 0
Reads text x = (ts : List Lexeme) × Cut text ts × DerivesSource x (in_language (with_lines ts)) [] × (brackets x.model ≤ bracket_limit)
