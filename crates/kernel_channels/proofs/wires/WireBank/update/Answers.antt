use Rattle.std.proofs.Common.{◌∙◌, Bool, false, [], map, refl, ap}
use Rattle.kernel_events.specs.SimModel.Phases.{resettled_all, resolved_changes}
use Rattle.kernel_channels.specs.Codes.{Wires}
use Rattle.kernel_channels.specs.Announced.{told_by_resolved}
use Rattle.kernel_channels.proofs.Resting.{none_placed, all_unmarked}
use Rattle.kernel_channels.proofs.Updating.{wires_left, wires_marked, wires_announced}
use Rattle.kernel_channels.proofs.wires.WireBank.update.Goals as goal

abbrev updated : Wires → Wires
updated w = record { resolved = resettled_all w.resolved w.asked; asked = map (λ (b : Bool). false) w.asked; changed = resolved_changes w.resolved w.asked }

pub returns-then-is_empty-clause-left : goal.returns-then-is_empty-clause-left
returns-then-is_empty-clause-left c =
    let rs = c.self.inside.resolved.items in
    let bs = c.self.inside.asked in
    let cs = c.self.inside.changed in
    let clear = c.clear_all.new.self in
    let none = none_placed 0 bs (c.is_empty.ensures.0 c.if-is_empty.true) in
    let left = wires_left rs bs cs c.self.inside.visited c.self.invariant [] rs none refl rs refl in
    let marked = wires_marked rs bs cs c.self.inside.visited c.self.invariant [] rs none refl clear clear c.clear_all.ensures refl in
    (λ i. record {
      resolved = left i;
      asked = all_unmarked bs (c.is_empty.ensures.0 c.if-is_empty.true) i;
      changed = marked i;
    })
    ∙ ap updated c.self.view_is

pub returns-then-is_empty-clause-announced : goal.returns-then-is_empty-clause-announced
returns-then-is_empty-clause-announced c =
    let rs = c.self.inside.resolved.items in
    let bs = c.self.inside.asked in
    let none = none_placed 0 bs (c.is_empty.ensures.0 c.if-is_empty.true) in
    wires_announced rs bs c.self.inside.changed c.self.inside.visited c.self.invariant [] rs none refl c.args.parts.now c.args.events.now c.args.events.now refl
    ∙ ap (λ (w : Wires). told_by_resolved c.args.parts.now w.resolved w.asked c.args.events.now) c.self.view_is
