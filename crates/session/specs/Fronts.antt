-- Fronts of texts that a sink got.
use Rattle.std.specs.Prelude.{◌≤◌, ℕ, List, length, take, Option}
use Rattle.sim_io.specs.Contents.{Grew}

-- a front of a text was written
abbrev pub WroteFront : Option (List ℕ) → Option (List ℕ) → List ℕ → Type 0
WroteFront old new text = (count : ℕ) × (count ≤ length text) × Grew old new (take count text)
