-- Tables of the objects of each instance by their names.
use Rattle.std.specs.Prelude.{◌≡◌, ◌<◌, ℕ, List, [], drop, length, nat_lt, if◌then◌else◌, slice_get, slice_set, unwrap_or, Option}
use Rattle.std.specs.List.{position_from}
use Rattle.elaborate_objects.specs.FlatDesign.declared.objects.Object.{Object}
use Rattle.elaborate_objects.specs.ModelRules.Members.{entry}
use Rattle.elaborate_objects.specs.DesignRules.Listing.{is_child}
use Rattle.elaborate_objects.specs.CheckNames.Tables.{Numbers, with_first}

-- the number of the first object of this name in an instance; the top instance is none of its own
abbrev pub child_in : List Object → ℕ → List ℕ → Option ℕ
child_in os instance name = position_from (is_child instance name) 1 (drop 1 os)

-- the table of an instance
abbrev pub table_at : List Numbers → ℕ → Numbers
table_at tables instance = unwrap_or (slice_get tables instance) []

-- a name goes into the table of its instance, where there is one
abbrev pub with_child : List Numbers → ℕ → List ℕ → ℕ → List Numbers
with_child tables instance name i = if nat_lt instance (length tables) then slice_set tables instance (with_first (table_at tables instance) name i) else tables

-- each table has the numbers of the objects of its instance
pub record AreNamed (os : List Object) (tables : List Numbers) : Type 0 where
  pub long : length tables ≡ length os
  pub found : (instance : ℕ) (name : List ℕ) → instance < length os → entry name (table_at tables instance) ≡ child_in os instance name
