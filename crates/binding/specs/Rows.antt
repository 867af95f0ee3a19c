-- Lists under numbers: under a number past them stands an empty one.
use Rattle.std.specs.Prelude.{◌≡◌, ℕ, List, [], slice_get, unwrap_or}

abbrev pub row_at : {A : Type 0} → List (List A) → ℕ → List A
row_at rows i = unwrap_or (slice_get rows i) []

-- under each number stands what f gives
abbrev pub AreRows : {A : Type 0} → (ℕ → List A) → List (List A) → Type 0
AreRows f rows = (i : ℕ) → row_at rows i ≡ f i
