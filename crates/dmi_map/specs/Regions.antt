-- Granted regions, and which of them has or shares addresses.
use Rattle.std.specs.Prelude.{◌≡◌, ℕ, ◌+◌, ◌-◌, ◌^◌, ◌≤◌, Bool, true, not, ◌&&◌, ◌==◌, nat_lt, nat_le, List, [], ◌∷◌, ◌++◌, Option, option_map, find, filter, length, if◌then◌else◌}
use Rattle.std.specs.List.{list_all, list_any}
use Rattle.dmi_map.specs.declared.grants.Region.{Region}

abbrev pub region_of : ℕ → ℕ → ℕ → ℕ → Region
region_of i target low size = record { initiator = i; target = target; low = low; size = size }

-- there is an address, and none past the last of 2^64
abbrev pub is_region : Region → Bool
is_region region = nat_le 1 region.size && nat_le (region.low + region.size) (2 ^ 64)

-- each region is one, and they are few enough to be counted
pub record AreRegions (regions : List Region) : Type 0 where
  pub each : list_all is_region regions ≡ true
  pub few : length regions ≤ 2 ^ 32 - 1

-- both are the same
abbrev pub same : Region → Region → Bool
same one other = (one.initiator == other.initiator) && ((one.target == other.target) && ((one.low == other.low) && (one.size == other.size)))

-- the regions with this one, once
abbrev pub with_region : List Region → Region → List Region
with_region regions region = if list_any (same region) regions then regions else regions ++ region ∷ []

-- the region is the initiator's, and has `len` addresses from this one on
abbrev pub has_all : ℕ → ℕ → ℕ → Region → Bool
has_all i address len region = (region.initiator == i) && (nat_le region.low address && nat_le (address + len) (region.low + region.size))

-- the target of the first such region
abbrev pub covering : ℕ → ℕ → ℕ → List Region → Option ℕ
covering i address len regions = option_map (λ region. region.target) (find (has_all i address len) regions)

-- the region shares an address with those from `low` to `high`
abbrev pub reaches : ℕ → ℕ → Region → Bool
reaches low high region = nat_lt low (region.low + region.size) && nat_le region.low high

-- the regions that share none
abbrev pub left_by : ℕ → ℕ → List Region → List Region
left_by low high regions = filter (λ region. not (reaches low high region)) regions
