use Rattle.std.proofs.Common.{◌≡◌, drop}
use Rattle.std.specs.List.{list_any}
use Rattle.check_expressions.specs.ModelRules.Reach.{Placed, blocks_itself}
use Rattle.check_expressions.specs.CheckNames.ModuleNames.{items_of}
use Rattle.check_reach.specs.Flat.{placed_list}
use Rattle.check_reach.proofs.deeds.has_blocking.Given as goal

abbrev pub invariant-loop-placed : goal.invariant-loop-placed
invariant-loop-placed l = list_any (λ (x : Placed). blocks_itself (items_of l.names) x.0) (placed_list l.statements) ≡ list_any (λ (x : Placed). blocks_itself (items_of l.names) x.0) (placed_list (drop l.placed-index l.statements))
