use Rattle.std.proofs.Common.{◌≡◌, ℕ, ◌<◌, length}
use Rattle.bus_router.specs.Answers.{payload_at}
use Rattle.bus_router.specs.Serving.{first_of}
use Rattle.bus_router.proofs.asking.first_payloads.Given as goal

abbrev pub invariant-loop-k : goal.invariant-loop-k
invariant-loop-k l = record {
  many : length l.payloads.items ≡ l.k;
  each : (k : ℕ) → k < l.k → payload_at l.payloads.items k ≡ first_of l.bus k;
}
