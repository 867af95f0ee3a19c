-- The bytes of one of several memories.
use Rattle.std.specs.Prelude.{ℕ, List, [], Option, Some, None, slice_get, slice_set, unwrap_or}

-- none where no number is given, or there is no memory of the number
abbrev pub bytes_of : List (List ℕ) → Option ℕ → List ℕ
bytes_of ms None = []
bytes_of ms (Some m) = unwrap_or (slice_get ms m) []

-- other bytes in its place
abbrev pub with_bytes : List (List ℕ) → Option ℕ → List ℕ → List (List ℕ)
with_bytes ms None bytes = ms
with_bytes ms (Some m) bytes = slice_set ms m bytes
