-- That the lines of constructs never fall.
use Rattle.std.specs.Prelude.{ℕ, ◌≤◌, List, [], ◌∷◌}
use Rattle.model_rules.specs.Sites.{Site}

-- the line of the first is at least this, and that of each other at least that of the one before
abbrev pub RisesFrom : ℕ → List Site → Type 0
RisesFrom line [] = Unit {0}
RisesFrom line (x ∷ xs) = (line ≤ x.line) × RisesFrom x.line xs

-- the first line of a text is 1
abbrev pub LinesNeverFall : List Site → Type 0
LinesNeverFall xs = RisesFrom 1 xs
