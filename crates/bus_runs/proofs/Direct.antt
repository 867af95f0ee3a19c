-- What is done directly is what the router does.
use Rattle.std.proofs.Common.{◌≡◌, ℕ, ◌-◌, List, length, Option, Some, sym, ap, ◌∙◌}
use Rattle.std.specs.Prelude.{option_map}
use Rattle.bus_router.specs.PayloadPool.declared.payload.Payload.{Payload}
use Rattle.bus_router.specs.PayloadPool.Transfer.{memory_after, status_of}
use Rattle.bus_router.specs.DmiMap.declared.ranges.TargetRange.{TargetRange}
use Rattle.bus_router.specs.TrafficFile.declared.Bus.{Bus}
use Rattle.bus_router.specs.Times.{Table}
use Rattle.bus_router.specs.Answers.{IsServiceOrder, AreAnswers}
use Rattle.bus_runs.specs.Direct.{handed, handed_back, DirectIsAsRouted}

found_same : (one other : ℕ × ℕ) → ◌≡◌ {A = Option (ℕ × ℕ)} (Some one) (Some other) → one ≡ other
found_same one other is = cc

pub as_routed : DirectIsAsRouted
as_routed ranges range p memory target offset with_it found =
    let both = found_same (range.target, p.address - range.low) (target, offset) (sym (ap (option_map (λ (r : TargetRange). (r.target, p.address - r.low))) with_it) ∙ found) in
    let at : p.address - range.low ≡ offset = ap (λ (q : ℕ × ℕ). q.1) both in
    record {
      target_is = ap (λ (q : ℕ × ℕ). q.0) both;
      status_is = ap (λ n. status_of (handed n p) (length memory)) at;
      payload_is = ap (λ n. handed_back n p memory) at;
      memory_is = ap (λ n. memory_after (handed n p) memory) at;
    }

pub by_order : (bus : Bus) (one other : Table) (payloads : List Payload) → ((home : ℕ) (ks : List ℕ) → IsServiceOrder bus one home ks → IsServiceOrder bus other home ks)
    → AreAnswers bus one payloads → AreAnswers bus other payloads
by_order bus one other payloads same it = record {
  many = it.many;
  nowhere = it.nowhere;
  served = λ home less. let its = it.served home less in record { ks = its.ks; order = same home its.ks its.order; each = its.each };
}
