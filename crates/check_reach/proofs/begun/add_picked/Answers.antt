use Rattle.std.proofs.Common.{◌++◌, ℕ, List, map, filter_map, Option, ap, ◌∙◌}
use Rattle.std.specs.Prelude.{option_to_list}
use Rattle.std.specs.Borrow.{Bor}
use Rattle.check_reach.specs.declared.placed.PlacedStatement.{PlacedStatement}
use Rattle.check_reach.specs.Flat.{picked, placed_of, placed_list}
use Rattle.check_reach.proofs.Turns.{turn, filtered}
use Rattle.check_reach.proofs.begun.add_picked.Goals as goal

pub loop-placed-preserved : goal.loop-placed-preserved
loop-placed-preserved c =
    let begin = c.args.begin in
    let kind = c.args.kind in
    let old = map (λ (n : Bor (List ℕ)). n.now) c.loop-placed.names.items in
    turn (λ (ss : List PlacedStatement). filter_map (picked begin kind) (placed_list ss)) (λ (p : PlacedStatement). option_to_list (picked begin kind (placed_of p)))
    (filtered placed_of (picked begin kind)) c.args.statements.now c.loop-placed.placed-index c.placed-item.result c.loop-placed-test.true c.placed-item.is old _ _
    (c.in_ok-add_name.ensures ∙ ap (λ (o : Option (List ℕ)). old ++ option_to_list o) c.picked.ensures) c.loop-placed.invariant
