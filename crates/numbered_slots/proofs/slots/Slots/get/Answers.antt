use Rattle.std.proofs.Common.{sym, ap, ◌∙◌}
use Rattle.std.specs.FinMap as map
use Rattle.numbered_slots.proofs.SlotLemmas.{get_found, get_absent}
use Rattle.numbered_slots.proofs.slots.Slots.get.Goals as goal

pub returns-in-Some-clause-value : goal.returns-in-Some-clause-value
returns-in-Some-clause-value g c =
    sym c.index.ensures
    ∙ sym (get_found c.self.inside.slots c.self.inside.keys _ _ (sym c.in-Some.ensures))
    ∙ ap (λ s. map.get s.live c.args.number) c.self.view_is

pub returns-in-None-clause-value : goal.returns-in-None-clause-value
returns-in-None-clause-value g c =
    sym (get_absent c.self.inside.slots c.self.inside.keys _ (sym c.in-None.ensures))
    ∙ ap (λ s. map.get s.live c.args.number) c.self.view_is
