-- What is left of a text while its lines are cut off, and of a line while its words are.
use Rattle.std.specs.Prelude.{ℕ, List, [], ◌∷◌, Option, Some, None}
use Rattle.std.specs.Option.{option_map_or}
use Rattle.std.specs.Borrow.{Bor}
use Rattle.text_lines.specs.Lines.{lines, words}

-- the lines of what is left, where something is
abbrev pub lines_left : Option (Bor (List ℕ)) → List (List ℕ)
lines_left rest = option_map_or (λ bytes. lines bytes.now) rest []

-- the words of what is left, where something is
abbrev pub words_left : Option (Bor (List ℕ)) → List (List ℕ)
words_left rest = option_map_or (λ bytes. words bytes.now) rest []

-- a word and those behind it; none where no word was found
abbrev pub words_after : Option (Bor (List ℕ) × Option (Bor (List ℕ))) → List (List ℕ)
words_after None = []
words_after (Some found) = found.0.now ∷ words_left found.1
