-- How the marks are kept: as flags, and a list of the numbers whose flag is not free. No public clause cites this module.
use Rattle.std.specs.Prelude.{◌≡◌, ℕ, ◌≤◌, ◌<◌, ◌^◌, Bool, true, false, ◌==◌, List, map, length, get_or, count_by, if◌then◌else◌}
use Rattle.numbered_slots.specs.declared.flags.Flag.{Flag}
use Rattle.numbered_slots.specs.declared.flags.Flag.TheVariants.{Free, Marked, Struck}

abbrev pub is_marked : Flag → Bool
is_marked Free = false
is_marked Marked = true
is_marked Struck = false

-- whether the number stands in the list
abbrev pub is_listed : Flag → Bool
is_listed Free = false
is_listed Marked = true
is_listed Struck = true

abbrev pub marks_of : List Flag → List Bool
marks_of flags = map is_marked flags

-- the list has each number whose flag is not free once, and no other
pub record ListsEachOnce (flags : List Flag) (listed : List ℕ) : Type 0 where
  pub once : (n : ℕ) → count_by (λ x. x == n) listed ≡ (if is_listed (get_or flags n Free) then 1 else 0)

-- the list and the count are those of the flags, and there is room to list each number
pub record IsSound (flags : List Flag) (listed : List ℕ) (room marked : ℕ) : Type 0 where
  pub lists : ListsEachOnce flags listed
  pub as_many : length listed ≡ count_by is_listed flags
  pub count : marked ≡ count_by (λ mark. mark) (marks_of flags)
  pub size : length flags < 2 ^ 32
  pub enough : length flags ≤ room
