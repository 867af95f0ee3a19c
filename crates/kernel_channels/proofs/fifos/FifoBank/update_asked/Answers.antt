use Rattle.std.proofs.Common.{◌∙◌, List, map, length, ap}
use Rattle.std.specs.Prelude.{vec_items}
use Rattle.std.specs.Vec.{with_items}
use Rattle.std.proofs.lemmas.List.{length-map}
use Rattle.kernel_events.specs.FifoSync.Fifos.{Queued, after_update}
use Rattle.kernel_channels.specs.Announced.{told_by_fifos}
use Rattle.kernel_channels.proofs.Resting.{as_many}
use Rattle.kernel_channels.proofs.Changing.{room_enough}
use Rattle.kernel_channels.proofs.Updating.{visited_are, fifos_left, fifos_announced, fifos_sound, stands}
use Rattle.kernel_channels.proofs.fifos.FifoBank.update_asked.Goals as goal

pub take_all-requires : goal.take_all-requires
take_all-requires c =
    room_enough (length c.self.inside.fifos.items) c.self.inside.visited c.self.inside.asked c.self.invariant.visits (as_many after_update c.self.inside.fifos.items c.self.inside.asked c.self.invariant.rests)

pub invariant_of-self : goal.invariant_of-self
invariant_of-self c =
    let qs = c.self.inside.fifos.items in
    let bs = c.self.inside.asked in
    let ns = c.as_slice.result.now in
    let before = c.as_mut_slice.result.now in
    let all = visited_are c.self.inside.visited (length qs) bs c.take_all.new.out.items ns c.self.invariant.visits c.take_all.ensures.taken c.as_slice.ensures.value in
    let left = fifos_left qs bs c.self.inside.visited c.self.invariant ns before all c.as_mut_slice.ensures.value c.update_each.new.fifos c.update_each.ensures.left in
    fifos_sound qs bs c.self.inside.visited c.self.invariant ns before all c.as_mut_slice.ensures.value (vec_items (with_items c.self.inside.fifos c.update_each.new.fifos)) c.take_all.new.self c.clear.new.self
    (stands c.self.inside.fifos c.update_each.new.fifos (ap length left ∙ length-map qs after_update) ∙ left) c.take_all.ensures.left
    c.clear.ensures.items (c.clear.ensures.capacity ∙ c.take_all.ensures.capacity)

pub returns-clause-left : goal.returns-clause-left
returns-clause-left c =
    let qs = c.self.inside.fifos.items in
    let bs = c.self.inside.asked in
    let ns = c.as_slice.result.now in
    let before = c.as_mut_slice.result.now in
    let all = visited_are c.self.inside.visited (length qs) bs c.take_all.new.out.items ns c.self.invariant.visits c.take_all.ensures.taken c.as_slice.ensures.value in
    let left = fifos_left qs bs c.self.inside.visited c.self.invariant ns before all c.as_mut_slice.ensures.value c.update_each.new.fifos c.update_each.ensures.left in
    stands c.self.inside.fifos c.update_each.new.fifos (ap length left ∙ length-map qs after_update) ∙ left ∙ ap (map after_update) c.self.view_is

pub returns-clause-announced : goal.returns-clause-announced
returns-clause-announced c =
    let qs = c.self.inside.fifos.items in
    let bs = c.self.inside.asked in
    let ns = c.as_slice.result.now in
    let before = c.as_mut_slice.result.now in
    let all = visited_are c.self.inside.visited (length qs) bs c.take_all.new.out.items ns c.self.invariant.visits c.take_all.ensures.taken c.as_slice.ensures.value in
    fifos_announced qs bs c.self.inside.visited c.self.invariant ns before all c.as_mut_slice.ensures.value c.args.parts.now c.args.events.now c.update_each.new.events c.update_each.ensures.announced
    ∙ ap (λ (xs : List Queued). told_by_fifos c.args.parts.now xs c.args.events.now) c.self.view_is
