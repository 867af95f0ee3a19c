use Rattle.std.proofs.Common.{◌∙◌, Bool, false, map, length, sym, ap}
use Rattle.std.specs.Prelude.{vec_items}
use Rattle.std.specs.Vec.{with_items}
use Rattle.kernel_events.specs.SimModel.Phases.{resettled_all, resolved_changes}
use Rattle.kernel_channels.specs.Codes.{Wires}
use Rattle.kernel_channels.specs.Announced.{told_by_resolved}
use Rattle.kernel_channels.proofs.Resting.{all_false}
use Rattle.kernel_channels.proofs.Updating.{visited_are, length-resettled, wires_left, wires_marked, wires_announced, wires_sound, stands}
use Rattle.kernel_channels.proofs.wires.WireBank.update_asked.Goals as goal

pub invariant_of-self : goal.invariant_of-self
invariant_of-self c =
    let rs = c.self.inside.resolved.items in
    let bs = c.self.inside.asked in
    let cs = c.self.inside.changed in
    let ns = c.as_slice.result.now in
    let before = c.as_mut_slice.result.now in
    let all = visited_are c.self.inside.visited (length rs) bs c.take_all.new.out.items ns c.self.invariant.visits c.take_all.ensures.taken c.as_slice.ensures.value in
    let left = wires_left rs bs cs c.self.inside.visited c.self.invariant ns before all c.as_mut_slice.ensures.value c.update_each.new.resolved c.update_each.ensures.left in
    let marked = wires_marked rs bs cs c.self.inside.visited c.self.invariant ns before all c.as_mut_slice.ensures.value c.clear_all.new.self c.update_each.new.changed c.clear_all.ensures c.update_each.ensures.marked in
    wires_sound rs bs cs c.self.inside.visited c.self.invariant ns before all c.as_mut_slice.ensures.value (vec_items (with_items c.self.inside.resolved c.update_each.new.resolved)) c.take_all.new.self c.update_each.new.changed c.clear.new.self
    (stands c.self.inside.resolved c.update_each.new.resolved (ap length left ∙ length-resettled rs bs) ∙ left) c.take_all.ensures.left marked
    c.clear.ensures.items (c.clear.ensures.capacity ∙ c.take_all.ensures.capacity)

abbrev updated : Wires → Wires
updated w = record { resolved = resettled_all w.resolved w.asked; asked = map (λ (b : Bool). false) w.asked; changed = resolved_changes w.resolved w.asked }

pub returns-clause-left : goal.returns-clause-left
returns-clause-left c =
    let rs = c.self.inside.resolved.items in
    let bs = c.self.inside.asked in
    let cs = c.self.inside.changed in
    let ns = c.as_slice.result.now in
    let before = c.as_mut_slice.result.now in
    let all = visited_are c.self.inside.visited (length rs) bs c.take_all.new.out.items ns c.self.invariant.visits c.take_all.ensures.taken c.as_slice.ensures.value in
    let left = wires_left rs bs cs c.self.inside.visited c.self.invariant ns before all c.as_mut_slice.ensures.value c.update_each.new.resolved c.update_each.ensures.left in
    let marked = wires_marked rs bs cs c.self.inside.visited c.self.invariant ns before all c.as_mut_slice.ensures.value c.clear_all.new.self c.update_each.new.changed c.clear_all.ensures c.update_each.ensures.marked in
    (λ i. record {
      resolved = (stands c.self.inside.resolved c.update_each.new.resolved (ap length left ∙ length-resettled rs bs) ∙ left) i;
      asked = (c.take_all.ensures.left ∙ sym (all_false bs)) i;
      changed = marked i;
    })
    ∙ ap updated c.self.view_is

pub returns-clause-announced : goal.returns-clause-announced
returns-clause-announced c =
    let rs = c.self.inside.resolved.items in
    let bs = c.self.inside.asked in
    let cs = c.self.inside.changed in
    let ns = c.as_slice.result.now in
    let before = c.as_mut_slice.result.now in
    let all = visited_are c.self.inside.visited (length rs) bs c.take_all.new.out.items ns c.self.invariant.visits c.take_all.ensures.taken c.as_slice.ensures.value in
    wires_announced rs bs cs c.self.inside.visited c.self.invariant ns before all c.as_mut_slice.ensures.value c.args.parts.now c.args.events.now c.update_each.new.events c.update_each.ensures.announced
    ∙ ap (λ (w : Wires). told_by_resolved c.args.parts.now w.resolved w.asked c.args.events.now) c.self.view_is
