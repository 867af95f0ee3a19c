use Rattle.std.proofs.Common.{◌++◌, ℕ, List, map, filter_map, refl, ap, ◌∙◌}
use Rattle.std.specs.Borrow.{Bor}
use Rattle.check_reach.specs.declared.bodies.FlatBody.{FlatBody}
use Rattle.check_reach.specs.declared.placed.PlacedStatement.{PlacedStatement}
use Rattle.check_reach.specs.Flat.{begun, picked, picked_in, placed_list, seen, seen_list}
use Rattle.check_reach.proofs.Turns.{turn}
use Rattle.check_reach.proofs.begun.begun.Goals as goal

pub loop-body-preserved : goal.loop-body-preserved
loop-body-preserved c =
    let begin = c.args.begin in
    let old = map (λ (n : Bor (List ℕ)). n.now) c.loop-body.names.items in
    let b = c.body-item.result in
    turn (λ (bs : List FlatBody). begun begin (seen_list bs)) (λ (x : FlatBody). picked_in begin (seen x)) (λ x bs. refl) c.args.bodies.now c.loop-body.body-index b c.loop-body-test.true c.body-item.is old _ _
    (c.in_ok-add_picked.ensures ∙ ap (λ (ss : List PlacedStatement). old ++ filter_map (picked begin b.kind) (placed_list ss)) c.as_slice.ensures.value) c.loop-body.invariant
