-- A list of choices that is being read: the serials so far, and the lines that are left.
use Rattle.std.specs.Prelude.{ℕ, suc, ◌≡◌, List, [], ◌∷◌, ◌++◌, Option, Result, Ok, Err}
use Rattle.std.specs.Option.{option_map_or}
use Rattle.std.specs.Borrow.{Bor}
use Rattle.script_text.specs.ChoiceList.{list_lines, serials_from}

-- the lines of what is left of a text, where something is
abbrev pub list_lines_left : Option (Bor (List ℕ)) → List (List ℕ)
list_lines_left rest = option_map_or (λ bytes. list_lines bytes.now) rest []

-- what a whole text says, where these serials were read and the lines left are as given
abbrev pub behind_serials : List ℕ → Result (List ℕ) ℕ → Result (List ℕ) ℕ
behind_serials list (Ok later) = Ok (list ++ later)
behind_serials list (Err line) = Err line

-- the line is a serial that joins those before it, whatever lines are behind it
abbrev pub SerialGoesOn : List ℕ → ℕ → List ℕ → List ℕ → Type 0
SerialGoesOn list n line more = (ls : List (List ℕ)) → behind_serials list (serials_from n (line ∷ ls)) ≡ behind_serials more (serials_from (suc n) ls)

-- the text does not read for a line with this number, whatever lines are behind it
abbrev pub SerialStopsAt : List ℕ → ℕ → List ℕ → ℕ → Type 0
SerialStopsAt list n line number = (ls : List (List ℕ)) → behind_serials list (serials_from n (line ∷ ls)) ≡ Err number
