use Rattle.std.proofs.Common.{◌≡◌, drop}
use Rattle.check_expressions.specs.ModelRules.Names.{first}
use Rattle.check_expressions.specs.CheckNames.ModuleNames.{items_of}
use Rattle.check_reach.specs.Flat.{seen_list}
use Rattle.check_reach.specs.Findings.{flat_fault}
use Rattle.check_reach.proofs.findings.bodies_finding.Given as goal

abbrev pub invariant-loop-body : goal.invariant-loop-body
invariant-loop-body l = first (flat_fault (items_of l.names)) (seen_list l.bodies) ≡ first (flat_fault (items_of l.names)) (seen_list (drop l.body-index l.bodies))
