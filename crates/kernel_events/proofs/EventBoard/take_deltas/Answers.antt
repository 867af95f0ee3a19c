use Rattle.std.proofs.Common.{◌++◌, ◌<◌, ℕ, length, map, sym, ap, ◌∙◌, subst}
use Rattle.std.specs.List.{Contains}
use Rattle.std.proofs.lemmas.List.Elements.{All-same}
use Rattle.std.proofs.lemmas.List.Sorted.{All-permutation, Contains-permutation}
use Rattle.sim_model.specs.Phases.{is_delta, due_events, without_pending}
use Rattle.kernel_events.specs.Numbered.{fixed}
use Rattle.kernel_events.specs.Layout.{IsTied}
use Rattle.kernel_events.proofs.DueEvents.{fixed-append, tied_deltas}
use Rattle.kernel_events.proofs.EventBoard.take_deltas.Goals as goal

pub take_each-requires-clause-each : goal.take_each-requires-clause-each
take_each-requires-clause-each c = λ q is. subst (λ xs. Contains xs q) (sym c.as_slice.ensures.value)
    (Contains-permutation c.self.inside.deltas.items c.put_in_order.new.listed.items q c.put_in_order.ensures.moved (c.self.invariant.deltas.each q is))

pub take_each-requires-clause-below : goal.take_each-requires-clause-below
take_each-requires-clause-below c =
    let below = λ (q : ℕ). q < length c.self.inside.events in
    All-same below c.as_slice.result.now c.put_in_order.new.listed.items c.as_slice.ensures.value
    (All-permutation below c.self.inside.deltas.items c.put_in_order.new.listed.items c.put_in_order.ensures.moved c.self.invariant.deltas.below)

pub invariant_of-self : goal.invariant_of-self
invariant_of-self c =
    let events = c.self.inside.events in
    subst (λ es. IsTied es c.clear.new.self c.self.inside.times c.self.inside.size) (sym c.take_each.ensures.left)
    (tied_deltas events c.self.inside.deltas c.self.inside.times c.self.inside.size c.self.invariant c.clear.new.self c.clear.ensures.items (c.clear.ensures.capacity ∙ c.put_in_order.ensures.capacity))

pub returns-clause-taken : goal.returns-clause-taken
returns-clause-taken c =
    ap fixed c.take_each.ensures.taken
    ∙ fixed-append is_delta c.args.out.now.items c.self.inside.events
    ∙ ap (λ es. fixed c.args.out.now.items ++ due_events is_delta 0 es) c.self.view_is

pub returns-clause-left : goal.returns-clause-left
returns-clause-left c = c.take_each.ensures.left ∙ ap (λ es. map (without_pending is_delta) es) c.self.view_is
