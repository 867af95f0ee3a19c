-- Marks for the serials from q on, of those that are found.
use Rattle.std.specs.Prelude.{◌≡◌, ℕ, ◌-◌, Bool, true, false, nat_lt, List, ◌∷◌, Option, Some, None, slice_get, unwrap_or, if◌then◌else◌}
use Rattle.kernel_bodies.specs.SimModel.Waits.{holds}

abbrev pub marked : List Bool → ℕ → ℕ → Bool
marked marks q n = if nat_lt n q then false else unwrap_or (slice_get marks (n - q)) false

abbrev pub marked_if : List Bool → ℕ → Option ℕ → Bool
marked_if marks q None = false
marked_if marks q (Some n) = marked marks q n

-- a serial is found, or not
abbrev pub with_if : Bool → ℕ → List ℕ → List ℕ
with_if true n found = n ∷ found
with_if false n found = found

-- who is found has a mark, and nobody else
abbrev pub Agree : List Bool → ℕ → List ℕ → Type 0
Agree marks q found = (n : ℕ) → marked marks q n ≡ holds found n
