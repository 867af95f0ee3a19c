use Rattle.std.proofs.Common.{◌≡◌, drop}
use Rattle.check_expressions.specs.ModelRules.Names.{first}
use Rattle.check_expressions.specs.CheckNames.ModuleNames.{items_of}
use Rattle.check_reach.specs.Flat.{placed_list}
use Rattle.check_reach.specs.Findings.{placed_fault}
use Rattle.check_reach.proofs.findings.statements_finding.Given as goal

abbrev pub invariant-loop-placed : goal.invariant-loop-placed
invariant-loop-placed l = first (placed_fault (items_of l.names) l.around) (placed_list l.statements) ≡ first (placed_fault (items_of l.names) l.around) (placed_list (drop l.placed-index l.statements))
