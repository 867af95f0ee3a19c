use Rattle.std.proofs.Common.{sym, ap, ◌∙◌}
use Rattle.std.specs.FinMap as map
use Rattle.numbered_slots.specs.Numbered.{without}
use Rattle.numbered_slots.proofs.SlotLemmas.{get_found, get_absent, is_sound-removed, live-removed, live-absent, same_live}
use Rattle.numbered_slots.proofs.HomeLemmas.{tells-removed, homes-removed}
use Rattle.numbered_slots.proofs.slots.Slots.remove.Goals as goal

pub invariant_of-self : goal.invariant_of-self
invariant_of-self g c = (
  is_sound-removed _ _ _ _ _ _ _ c.self.invariant.0 (sym c.in-Some.ensures.value) c.in-Some.ensures.updates c.remove-in-Some.ensures.updates c.in-Some.ensures.len c.remove-in-Some.ensures.len,
  tells-removed _ _ c.self.inside.keys c.remove.new.self _ c.self.invariant.1 c.in-Some.ensures.updates c.leave_home.ensures,
  homes-removed c.self.inside.homes c.homes_without-homes.result c.self.inside.keys c.remove.new.self _ c.self.invariant.2 c.in-Some.ensures.updates c.homes_without-homes.ensures.less c.homes_without-homes.ensures.low,
)

pub returns-in-Some-clause-value : goal.returns-in-Some-clause-value
returns-in-Some-clause-value g c =
    sym c.remove-in-Some.ensures.value
    ∙ sym (get_found c.self.inside.slots c.self.inside.keys _ _ (sym c.in-Some.ensures.value))
    ∙ ap (λ s. map.get s.live c.args.number) c.self.view_is

pub returns-in-Some-clause-removed : goal.returns-in-Some-clause-removed
returns-in-Some-clause-removed g c =
    same_live (live-removed _ _ c.self.inside.keys c.remove.new.self _ _ _ c.self.invariant.0 (sym c.in-Some.ensures.value) c.in-Some.ensures.updates c.remove-in-Some.ensures.updates)
    ∙ ap (λ s. without s c.args.number) c.self.view_is

pub returns-in-None-clause-value : goal.returns-in-None-clause-value
returns-in-None-clause-value g c =
    sym (get_absent c.self.inside.slots c.self.inside.keys _ (sym c.in-None.ensures.value))
    ∙ ap (λ s. map.get s.live c.args.number) c.self.view_is

pub returns-in-None-clause-removed : goal.returns-in-None-clause-removed
returns-in-None-clause-removed g c =
    same_live (live-absent c.self.inside.slots c.self.inside.keys c.remove.new.self _ (sym c.in-None.ensures.value) c.in-None.ensures.unchanged)
    ∙ ap (λ s. without s c.args.number) c.self.view_is
