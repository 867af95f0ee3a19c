use Rattle.std.proofs.Common.{◌≡◌, ℕ, ◌<◌, length, get_or, None}
use Rattle.traffic_file.specs.Traffic.{range_of_line}
use Rattle.bus_router.proofs.homes.homes_of.Given as goal

abbrev pub invariant-loop-k : goal.invariant-loop-k
invariant-loop-k l = record {
  many : length l.homes.items ≡ l.k;
  each : (k : ℕ) → k < l.k → get_or l.homes.items k None ≡ range_of_line l.bus k;
}
