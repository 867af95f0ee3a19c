-- The points of a trace: the texts of its snapshots.
use Rattle.std.specs.Prelude.{◌≡◌, ℕ, if◌then◌else◌, List, [], ◌∷◌, Option, Some, None, ⊤}
use Rattle.laws_runs.specs.LogicValues.declared.kinds.Value.{Value}
use Rattle.laws_runs.specs.LogicValues.SameValue.{is_same}
use Rattle.laws_runs.specs.SimModel.Configuration.{Snapshot}
use Rattle.laws_runs.specs.SimModel.Trace.{first_values, later_values, value_line}

abbrev pub snapshot_of : ℕ → List Value → Snapshot
snapshot_of t vs = record { time = t; values = vs }

-- the line of a value of variable n, unless it was the one before
abbrev pub change_line : ℕ → Option Value → Value → List ℕ
change_line n None v = value_line n v
change_line n (Some u) v = if is_same u v then [] else value_line n v

-- It is the text of a snapshot: of the first, or behind one with these values.
abbrev pub IsPoint : Option (List Value) → Snapshot → List ℕ → Type 0
IsPoint None s text = text ≡ first_values s
IsPoint (Some old) s text = (before : Snapshot) → before.values ≡ old → text ≡ later_values before s

-- Each text is that of the snapshot at its place, behind the one before it.
abbrev pub ArePoints : Option (List Value) → List Snapshot → List (List ℕ) → Type 0
ArePoints last [] [] = ⊤
ArePoints last [] (p ∷ ps) = ⊥
ArePoints last (s ∷ more) [] = ⊥
ArePoints last (s ∷ more) (p ∷ ps) = IsPoint last s p × ArePoints (Some s.values) more ps
