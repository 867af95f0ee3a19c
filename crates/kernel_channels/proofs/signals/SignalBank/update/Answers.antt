use Rattle.std.proofs.Common.{◌∙◌, map, length, ap}
use Rattle.std.specs.Prelude.{vec_items}
use Rattle.std.specs.Vec.{with_items}
use Rattle.std.proofs.lemmas.List.{length-map}
use Rattle.kernel_events.specs.SignalChannel.Signals.{settled, change_of}
use Rattle.kernel_events.specs.SignalChannel.declared.signal.Signal.{Signal}
use Rattle.kernel_channels.specs.Codes.{Values}
use Rattle.kernel_channels.specs.Announced.{told_by_signals}
use Rattle.kernel_channels.specs.UpdateMarks.{asked_of}
use Rattle.kernel_channels.proofs.AskedLists.{asked_are}
use Rattle.kernel_channels.proofs.Updating.{signals_left, signals_marked, signals_announced, signals_sound, stands}
use Rattle.kernel_channels.proofs.signals.SignalBank.update.Goals as goal

pub invariant_of-self : goal.invariant_of-self
invariant_of-self c =
    let ss = c.self.inside.signals.items in
    let asked = c.self.inside.asked in
    let cs = c.self.inside.changed in
    let ns = c.as_slice.result.now in
    let before = c.as_mut_slice.result.now in
    let all = asked_are (asked_of ss) asked c.put_in_order.new.listed.items ns c.self.invariant.lists c.put_in_order.ensures.sorted c.put_in_order.ensures.moved c.as_slice.ensures.value in
    let left = signals_left ss asked cs c.self.invariant ns before all c.as_mut_slice.ensures.value c.update_each.new.signals c.update_each.ensures.left in
    let marked = signals_marked ss asked cs c.self.invariant ns before all c.as_mut_slice.ensures.value c.clear_all.new.self c.update_each.new.changed c.clear_all.ensures c.update_each.ensures.marked in
    signals_sound ss asked cs c.self.invariant ns before all c.as_mut_slice.ensures.value (vec_items (with_items c.self.inside.signals c.update_each.new.signals)) c.clear.new.self c.update_each.new.changed
    (stands c.self.inside.signals c.update_each.new.signals (ap length left ∙ length-map ss settled) ∙ left) marked
    c.clear.ensures.items (c.clear.ensures.capacity ∙ c.put_in_order.ensures.capacity)

abbrev updated : Values → Values
updated v = record { signals = map settled v.signals; changed = map (λ (s : Signal). (change_of s).changed) v.signals }

pub returns-clause-left : goal.returns-clause-left
returns-clause-left c =
    let ss = c.self.inside.signals.items in
    let asked = c.self.inside.asked in
    let cs = c.self.inside.changed in
    let ns = c.as_slice.result.now in
    let before = c.as_mut_slice.result.now in
    let all = asked_are (asked_of ss) asked c.put_in_order.new.listed.items ns c.self.invariant.lists c.put_in_order.ensures.sorted c.put_in_order.ensures.moved c.as_slice.ensures.value in
    let left = signals_left ss asked cs c.self.invariant ns before all c.as_mut_slice.ensures.value c.update_each.new.signals c.update_each.ensures.left in
    let marked = signals_marked ss asked cs c.self.invariant ns before all c.as_mut_slice.ensures.value c.clear_all.new.self c.update_each.new.changed c.clear_all.ensures c.update_each.ensures.marked in
    (λ i. record { signals = (stands c.self.inside.signals c.update_each.new.signals (ap length left ∙ length-map ss settled) ∙ left) i; changed = marked i })
    ∙ ap updated c.self.view_is

pub returns-clause-announced : goal.returns-clause-announced
returns-clause-announced c =
    let ss = c.self.inside.signals.items in
    let asked = c.self.inside.asked in
    let cs = c.self.inside.changed in
    let ns = c.as_slice.result.now in
    let before = c.as_mut_slice.result.now in
    let all = asked_are (asked_of ss) asked c.put_in_order.new.listed.items ns c.self.invariant.lists c.put_in_order.ensures.sorted c.put_in_order.ensures.moved c.as_slice.ensures.value in
    signals_announced ss asked cs c.self.invariant ns before all c.as_mut_slice.ensures.value c.args.parts.now c.args.events.now c.update_each.new.events c.update_each.ensures.announced
    ∙ ap (λ (v : Values). told_by_signals c.args.parts.now v.signals c.args.events.now) c.self.view_is
