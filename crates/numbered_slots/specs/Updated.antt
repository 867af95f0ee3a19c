-- A finite map from numbers, written at one key.
use Rattle.std.specs.Prelude.{ℕ, Option, Some, None}
use Rattle.std.specs.Ordering.{nat_cmp}
use Rattle.std.specs.FinMap as map

-- the map with this at the key, or with nothing there
abbrev pub updated : {X : Type 0} → map.FinMap nat_cmp X → ℕ → Option X → map.FinMap nat_cmp X
updated m k None = map.remove m k
updated m k (Some x) = map.insert m k x
