use borrow.Follows.Closed.{read_of}
use Rattle.std.proofs.Common.{Some, refl, sym, ◌∙◌}
use Rattle.std.specs.Option.{ghost_name_of}
use Rattle.numbered_slots.specs.Layout.{shown}
use Rattle.numbered_slots.proofs.SlotLemmas.{get_found, get_absent, updates-with_value, slab_len-with_value, is_sound-written, live-written, same_live}
use Rattle.numbered_slots.proofs.slots.Slots.get_mut.Goals as goal

pub returns-in_err-key : goal.returns-in_err-key
returns-in_err-key g c = rw (c.from_residual.ensures, ← c.self.view_is) (
  refl,
  record { writes_back = tt; value = sym (get_absent c.self.inside.slots c.self.inside.keys _ (sym c.in_err-key.ensures)) },
)

pub invariant_of-self-lent : goal.invariant_of-self-lent
invariant_of-self-lent g c w = (
  is_sound-written _ _ _ _ _ _ w c.self.invariant.0 (sym c.in_ok-key.ensures)
      (updates-with_value _ _ w (c.self.invariant.0.occupied _ _ (sym c.in_ok-key.ensures)))
      (slab_len-with_value c.self.inside.slots _ w (c.self.invariant.0.occupied _ _ (sym c.in_ok-key.ensures))),
  c.self.invariant.1,
  c.self.invariant.2,
)

pub returns : goal.returns
returns g c =
    let at = sym c.in_ok-key.ensures in
    rw (← c.self.view_is) (
      λ t. read_of (ghost_name_of (Some c.index_mut.result)) (λ (w : g.row.T.Denot).
          same_live {n = c.self.inside.next} (live-written c.self.inside.slots _ c.self.inside.keys _ _ _ w c.self.invariant.0 at
          (updates-with_value _ _ w (c.self.invariant.0.occupied _ _ at))) t) (shown c.self.inside.slots.slots c.self.inside.keys.entries c.self.inside.next),
      record { writes_back = tt; value = sym c.index_mut.ensures.value ∙ sym (get_found c.self.inside.slots c.self.inside.keys _ _ at) },
    )
