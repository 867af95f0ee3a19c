use Rattle.std.proofs.Common.{le_refl, sym, ap, subst, ◌∙◌}
use Rattle.numbered_slots.specs.Numbered.{with_inserted}
use Rattle.numbered_slots.specs.Layout.{TellsHomes}
use Rattle.numbered_slots.proofs.SlotLemmas.{has_fresh_next, is_sound-new, shown-new, one_entry_more}
use Rattle.numbered_slots.proofs.HomeLemmas.{tells-inserted, homes-inserted}
use Rattle.numbered_slots.proofs.slots.Slots.insert.Goals as goal

pub returns-in-Err-clause-fresh : goal.returns-in-Err-clause-fresh
returns-in-Err-clause-fresh g c = rw (← c.self.view_is) (has_fresh_next c.self.inside.slots c.self.inside.keys _ c.self.invariant.0)

pub returns-in-Err-reserve-clause-fresh : goal.returns-in-Err-reserve-clause-fresh
returns-in-Err-reserve-clause-fresh g c = rw (← c.self.view_is) (has_fresh_next c.self.inside.slots c.self.inside.keys _ c.self.invariant.0)

pub returns-in-Err-insert-clause-fresh : goal.returns-in-Err-insert-clause-fresh
returns-in-Err-insert-clause-fresh g c = rw (← c.self.view_is) (has_fresh_next c.self.inside.slots c.self.inside.keys _ c.self.invariant.0)

pub invariant_of-self-2 : goal.invariant_of-self-2
invariant_of-self-2 g c =
    let none = c.self.invariant.0.below _ (le_refl c.self.inside.next) in (
      is_sound-new c.self.inside.slots c.reserve.new.self _ c.self.inside.keys _ _ _ _ _
          c.self.invariant.0 (ap (λ s. s.slots) c.in-Ok.ensures.rest_kept) c.vacant_key-key.ensures.vacant c.in-Ok-insert.ensures.updates
          (c.insert_reserved.ensures.key ∙ sym c.vacant_key-key.ensures.value) c.insert_reserved.ensures.updates
          (one_entry_more c.self.inside.keys c.insert.new.self _ _ c.in-Ok-insert.ensures.old none c.in-Ok-insert.ensures.len) c.insert_reserved.ensures.len,
      tells-inserted _ _ c.self.inside.keys c.insert.new.self _ _ (subst (λ flags. TellsHomes flags c.self.inside.keys) (sym c.reserve-2.ensures.items) c.self.invariant.1) none c.in-Ok-insert.ensures.updates c.note_first.ensures,
      homes-inserted c.self.inside.homes c.homes_with-homes.result c.self.inside.keys c.insert.new.self _ _ c.self.invariant.2 none c.in-Ok-insert.ensures.updates c.homes_with-homes.ensures,
    )

pub returns-clause-fresh : goal.returns-clause-fresh
returns-clause-fresh g c = rw (← c.self.view_is) (has_fresh_next c.self.inside.slots c.self.inside.keys _ c.self.invariant.0)

pub returns-clause-inserted : goal.returns-clause-inserted
returns-clause-inserted g c =
    shown-new c.self.inside.slots c.reserve.new.self c.insert_reserved.new.self c.self.inside.keys c.insert.new.self _ _ _ _
    c.self.invariant.0 (ap (λ s. s.slots) c.in-Ok.ensures.rest_kept) c.vacant_key-key.ensures.vacant c.in-Ok-insert.ensures.updates
    (c.insert_reserved.ensures.key ∙ sym c.vacant_key-key.ensures.value) c.insert_reserved.ensures.updates
    ∙ ap (λ s. with_inserted s c.args.value) c.self.view_is
