use Rattle.std.proofs.Common.{◌≡◌, ◌<◌, ℕ, length, drop}
use Rattle.std.specs.Prelude.{position}
use Rattle.std.specs.Option.{option_or}
use Rattle.std.specs.List.{position_from}
use Rattle.elaborate_objects.specs.DesignRules.Denoting.{ends_at}
use Rattle.elaborate_design.specs.Joins.{number_at}
use Rattle.elaborate_design.proofs.hops.ends.Given as goal

-- what a place has, or else the first hop of those that are left, is the first of all
abbrev pub invariant-loop-number : goal.invariant-loop-number
invariant-loop-number l = record {
  long : length l.table.items ≡ l.count;
  first : (i : ℕ) → i < l.count → option_or (number_at l.table.items i) (position_from (ends_at i) l.number (drop l.number l.hops)) ≡ position (ends_at i) l.hops;
}
