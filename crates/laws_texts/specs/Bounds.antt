-- How long a printed text may be.
use Rattle.std.specs.Prelude.{ℕ, ◌+◌, ◌*◌}
use Rattle.model_print.specs.ModelTree.Tree as tree
use Rattle.model_lexer.specs.Brackets.{brackets}

-- the most bytes that the text of a model may have
abbrev pub model_limit : ℕ
model_limit = 1048576

-- for each byte of the text that was read: two blanks for each bracket that is open at the deepest place, and the longest
-- token, which has 122 bytes, with a blank and a line's end
abbrev pub bytes_for_each : tree.Model → ℕ
bytes_for_each m = 2 * brackets m + 124
