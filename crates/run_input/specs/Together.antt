-- Two values that are there together or not at all.
use Rattle.std.specs.Prelude.{Option, Some, None, ⊤}

-- neither is there; or both are, and this is so of the two
abbrev pub Together : {A B : Type 0} → Option A → Option B → (A → B → Type 0) → Type 0
Together None None P = ⊤
Together None (Some b) P = ⊥
Together (Some a) None P = ⊥
Together (Some a) (Some b) P = P a b
