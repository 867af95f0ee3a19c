use Rattle.std.proofs.Common.{arith}
use Rattle.numbered_slots.proofs.SlotLemmas.{is_sound-empty}
use Rattle.numbered_slots.proofs.HomeLemmas.{tells-empty}
use Rattle.numbered_slots.proofs.slots.Slots.new.Goals as goal

pub invariant_of-result : goal.invariant_of-result
invariant_of-result g c = (
  is_sound-empty _ _ c.new.ensures.empty c.new-2.ensures.empty,
  tells-empty _ c.new-2.result c.new-3.ensures.items,
  λ k h. absurd (omega (arith, h)),
)
