use Rattle.numbered_slots.proofs.SlotLemmas.{has_fresh_next}
use Rattle.numbered_slots.proofs.slots.Slots.next_number.Goals as goal

pub returns-clause-fresh : goal.returns-clause-fresh
returns-clause-fresh g c = rw (← c.self.view_is) (has_fresh_next c.self.inside.slots c.self.inside.keys _ c.self.invariant.0)
