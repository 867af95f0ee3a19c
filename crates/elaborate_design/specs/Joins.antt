-- Tables of hops by the objects that they join.
use Rattle.std.specs.Prelude.{◌≡◌, ◌<◌, ℕ, Bool, List, length, position, slice_get, slice_set, unwrap_or, Option, Some, None}
use Rattle.elaborate_objects.specs.DesignRules.declared.bindings.Joined.{Joined}
use Rattle.elaborate_objects.specs.DesignRules.Denoting.{begins_at, ends_at}
use Rattle.elaborate_design.specs.declared.hops.HopEnds.{HopEnds}

-- a place that has no number yet gets one
abbrev pub set_if : List (Option ℕ) → ℕ → ℕ → Option (Option ℕ) → List (Option ℕ)
set_if table i number None = table
set_if table i number (Some None) = slice_set table i (Some number)
set_if table i number (Some (Some other)) = table

abbrev pub with_first_at : List (Option ℕ) → ℕ → ℕ → List (Option ℕ)
with_first_at table i number = set_if table i number (slice_get table i)

abbrev pub number_at : List (Option ℕ) → ℕ → Option ℕ
number_at table i = unwrap_or (slice_get table i) None

-- each place has the number of the first hop there
abbrev pub AreFirst : (ℕ → Joined → Bool) → List Joined → List (Option ℕ) → Type 0
AreFirst joins hops table = (i : ℕ) → i < length table → number_at table i ≡ position (joins i) hops

pub record AreEnds (count : ℕ) (hops : List Joined) (e : HopEnds) : Type 0 where
  pub begin_count : length e.begins.items ≡ count
  pub begins : AreFirst begins_at hops e.begins.items
  pub end_count : length e.ends.items ≡ count
  pub ends : AreFirst ends_at hops e.ends.items
