use Rattle.std.proofs.Common.{◌++◌, ℕ, List, filter_map, Option, ap, ◌∙◌}
use Rattle.std.specs.Prelude.{option_map, option_to_list}
use Rattle.check_expressions.specs.CheckNames.ModuleNames.{items_of}
use Rattle.check_reach.specs.declared.placed.PlacedStatement.{PlacedStatement}
use Rattle.check_reach.specs.Flat.{placed_of, placed_list}
use Rattle.check_reach.specs.Sets.{edge, edge_of}
use Rattle.check_reach.proofs.Turns.{turn, filtered}
use Rattle.check_reach.proofs.calls.add_calls.Goals as goal

pub loop-placed-preserved : goal.loop-placed-preserved
loop-placed-preserved c =
    let items = items_of c.args.names.now in
    let source = c.args.source in
    let old = c.loop-placed.edges.items in
    turn (λ (ss : List PlacedStatement). filter_map (edge_of items source) (placed_list ss)) (λ (p : PlacedStatement). option_to_list (edge_of items source (placed_of p)))
    (filtered placed_of (edge_of items source)) c.args.statements.now c.loop-placed.placed-index c.placed-item.result c.loop-placed-test.true c.placed-item.is old _ _
    (c.in_ok-add_call.ensures ∙ ap (λ (o : Option ℕ). old ++ option_to_list (option_map (edge source) o)) c.called_number.ensures) c.loop-placed.invariant
