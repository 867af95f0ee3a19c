-- Lists that grow at their end by those of another list that pass a test.
use Rattle.std.specs.Prelude.{ℕ, Bool, true, false, List, [], ◌∷◌, ◌++◌}

abbrev pub added_if : Bool → ℕ → List ℕ → List ℕ
added_if true n found = found ++ n ∷ []
added_if false n found = found

abbrev pub all_added : (ℕ → Bool) → List ℕ → List ℕ → List ℕ
all_added test [] found = found
all_added test (n ∷ ns) found = all_added test ns (added_if (test n) n found)
