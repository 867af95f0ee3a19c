-- Ranges of addresses, and which of them has an address.
use Rattle.std.specs.Prelude.{◌≡◌, ℕ, ◌+◌, ◌-◌, ◌^◌, ◌≤◌, Bool, true, ◌&&◌, nat_lt, nat_le, List, Option, Some, option_map, find, count_by, if◌then◌else◌}
use Rattle.std.specs.List.{list_all}
use Rattle.dmi_map.specs.declared.ranges.TargetRange.{TargetRange}
use Rattle.dmi_map.specs.declared.ranges.MapStop.{MapStop}
use Rattle.dmi_map.specs.declared.ranges.MapStop.TheVariants.{Range, Overlap}

abbrev pub range_of : ℕ → ℕ → ℕ → TargetRange
range_of low size target = record { low = low; size = size; target = target }

-- the address is one of the range
abbrev pub has : ℕ → TargetRange → Bool
has address range = nat_le range.low address && nat_lt address (range.low + range.size)

-- `size` addresses from `low` on share one with the range: each of the two begins below the end of the other
abbrev pub shares : ℕ → ℕ → TargetRange → Bool
shares low size range = nat_lt low (range.low + range.size) && nat_lt range.low (low + size)

-- there is an address, and none past the last of 2^64
abbrev pub is_range : ℕ → ℕ → Bool
is_range low size = nat_le 1 size && nat_le (low + size) (2 ^ 64)

-- each range is one, and no address is in two of them
pub record AreApart (ranges : List TargetRange) : Type 0 where
  pub each : list_all (λ range. is_range range.low range.size) ranges ≡ true
  pub once : (address : ℕ) → count_by (has address) ranges ≤ 1

-- the first range that has the address; where no address is in two ranges, the only one
abbrev pub range_with : ℕ → List TargetRange → Option TargetRange
range_with address ranges = find (has address) ranges

-- its target, and how far the address is from its first
abbrev pub found_at : List TargetRange → ℕ → Option (ℕ × ℕ)
found_at ranges address = option_map (λ range. (range.target, address - range.low)) (range_with address ranges)

-- the target of the first range that shares an address with `size` addresses from `low` on
abbrev pub overlapped : List TargetRange → ℕ → ℕ → Option ℕ
overlapped ranges low size = option_map (λ range. range.target) (find (shares low size) ranges)

-- why another range is refused, but for want of memory
abbrev pub refusal : List TargetRange → ℕ → ℕ → Option MapStop
refusal ranges low size = if is_range low size then option_map Overlap (overlapped ranges low size) else Some Range
