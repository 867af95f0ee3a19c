use Rattle.std.proofs.Common.{◌≡◌, ℕ, ◌<◌, ◌≤◌, false}
use Rattle.traffic_file.specs.Traffic.{invalidate_at}
use Rattle.bus_router.specs.Times.{reaches}
use Rattle.bus_router.proofs.granting.stays_from.Given as goal

abbrev pub invariant-loop-i : goal.invariant-loop-i
invariant-loop-i l = (i : ℕ) → i < l.i → l.from ≤ (invalidate_at l.bus i).time → reaches (invalidate_at l.bus i) l.range ≡ false
