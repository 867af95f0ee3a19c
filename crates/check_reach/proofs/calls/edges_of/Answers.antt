use Rattle.std.proofs.Common.{List, refl}
use Rattle.check_expressions.specs.CheckNames.ModuleNames.{items_of}
use Rattle.check_reach.specs.declared.bodies.FlatBody.{FlatBody}
use Rattle.check_reach.specs.Flat.{seen, seen_list}
use Rattle.check_reach.specs.Sets.{edges_in, edges_of}
use Rattle.check_reach.proofs.Turns.{turn}
use Rattle.check_reach.proofs.calls.edges_of.Goals as goal

pub loop-body-preserved : goal.loop-body-preserved
loop-body-preserved c =
    let items = items_of c.args.names.now in
    turn (λ (bs : List FlatBody). edges_of items (seen_list bs)) (λ (x : FlatBody). edges_in items (seen x)) (λ x bs. refl) c.args.bodies.now c.loop-body.body-index c.body-item.result c.loop-body-test.true c.body-item.is
    c.loop-body.edges.items _ _ c.in_ok-add_edges.ensures c.loop-body.invariant
