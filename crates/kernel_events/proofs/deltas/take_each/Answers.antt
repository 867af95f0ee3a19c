use Rattle.std.proofs.Common.{◌≡◌, ◌<◌, ◌+◌, ◌++◌, true, [], ◌∷◌, length, get_or, map, drop, set, vec_capacity, sym, ap, ◌∙◌, subst, arith, append_assoc, append-nil}
use Rattle.std.proofs.lemmas.List.{length-append, length-set}
use Rattle.std.proofs.lemmas.List.Elements.{All-get_or}
use Rattle.sim_model.specs.EventCore.declared.notifications.Pending.TheVariants as pending
use Rattle.sim_model.specs.EventCore.Notifications.{pending_at}
use Rattle.sim_model.specs.NumberedSlots.Places.{marked_places}
use Rattle.sim_model.specs.Phases.{is_delta, without_pending}
use Rattle.kernel_events.specs.Layout.{HasDeltas}
use Rattle.kernel_events.proofs.DueEvents.{length_from}
use Rattle.kernel_events.proofs.ListedDeltas.{each_passed, each_taken, taken_first, left_same, places_end, left_end}
use Rattle.kernel_events.proofs.deltas.take_each.Goals as goal
use Rattle.kernel_events.proofs.deltas.take_each.Goals.{then-has_delta, else-has_delta}

pub push_reserved-requires : goal.push_reserved-requires
push_reserved-requires c =
    let events = c.loop-e.events in
    let listed = c.args.listed.now in
    let first = taken_first events listed c.loop-e.e-index c.loop-e-test.true c.requires.sorted c.loop-e.invariant.each (sym c.has_delta.ensures ∙ c.if-has_delta.true) in
    let all = ap length c.loop-e.invariant.taken in
    let now = length-append c.loop-e.out.items (marked_places (map is_delta events)) in
    let before = length-append c.args.out.now.items (marked_places (map is_delta c.args.events.now)) in
    let count = length_from is_delta 0 c.args.events.now in
    let room = c.requires.room in
    let same = c.loop-e.invariant.capacity in
    omega (arith, ap length first, all, now, before, count, room, same, c.loop-e.out.ok.0, c.args.out.now.ok.0)

pub loop-e-preserved : goal.loop-e-preserved
loop-e-preserved c =
    let events = c.loop-e.events in
    let out = c.loop-e.out in
    let listed = c.args.listed.now in
    let k = c.loop-e.e-index in
    let here = get_or listed k 0 in
    let h = c.loop-e-test.true in
    let inv = c.loop-e.invariant in
    elim c.if-has_delta.branch [
      | then-has_delta w ↦
          let there : is_delta (pending_at events here) ≡ true = sym c.has_delta.ensures ∙ w.if-has_delta.true in
          let inside : here < length events = omega (arith, All-get_or (λ q. q < length c.args.events.now) listed k 0 h c.requires.below, inv.size) in
          let now = w.events-is ∙ w.cancel.ensures in
          record {
            each = subst (λ es. HasDeltas es (drop (k + 1) listed)) (sym now) (each_taken events listed k h c.requires.sorted inv.each there inside);
            size = ap length now ∙ length-set events here pending.Nothing ∙ inv.size;
            taken = (λ i. (ap (λ v. v.items) w.out-is ∙ w.push_reserved.ensures.items) i ++ marked_places (map is_delta (now i)))
                ∙ append_assoc out.items (here ∷ []) (marked_places (map is_delta (set events here pending.Nothing)))
                ∙ ap (λ ns. out.items ++ ns) (sym (taken_first events listed k h c.requires.sorted inv.each there)) ∙ inv.taken;
            left = ap (λ es. map (without_pending is_delta) es) now ∙ left_same events listed k h c.requires.sorted inv.each there ∙ inv.left;
            capacity = ap (λ v. vec_capacity v) w.out-is ∙ w.push_reserved.ensures.capacity ∙ inv.capacity;
          }
      | else-has_delta w ↦ record {
        each = subst (λ es. HasDeltas es (drop (k + 1) listed)) (sym w.events-is) (each_passed events listed k h c.requires.sorted inv.each (sym c.has_delta.ensures ∙ w.if-has_delta.false));
        size = ap length w.events-is ∙ inv.size;
        taken = (λ i. (w.out-is i).items ++ marked_places (map is_delta (w.events-is i))) ∙ inv.taken;
        left = ap (λ es. map (without_pending is_delta) es) w.events-is ∙ inv.left;
        capacity = ap (λ v. vec_capacity v) w.out-is ∙ inv.capacity;
      }
    ]

pub returns-clause-taken : goal.returns-clause-taken
returns-clause-taken c =
    sym (append-nil c.loop-e.out.items)
    ∙ ap (λ ns. c.loop-e.out.items ++ ns) (sym (places_end c.loop-e.events c.args.listed.now c.loop-e.e-index c.loop-e-test.false c.loop-e.invariant.each))
    ∙ c.loop-e.invariant.taken

pub returns-clause-left : goal.returns-clause-left
returns-clause-left c = sym (left_end c.loop-e.events c.args.listed.now c.loop-e.e-index c.loop-e-test.false c.loop-e.invariant.each) ∙ c.loop-e.invariant.left
