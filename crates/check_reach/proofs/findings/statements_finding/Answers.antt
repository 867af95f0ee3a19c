use Rattle.check_expressions.specs.CheckNames.ModuleNames.{items_of}
use Rattle.check_expressions.specs.Findings.{fault_seen}
use Rattle.check_reach.specs.Flat.{placed_of}
use Rattle.check_reach.specs.Findings.{placed_fault}
use Rattle.check_reach.proofs.Turns.{found_item, none_item}
use Rattle.check_reach.proofs.findings.statements_finding.Goals as goal

pub returns-in-Some : goal.returns-in-Some
returns-in-Some c =
    found_item placed_of (placed_fault (items_of c.args.names.now) c.args.around.now) c.args.statements.now c.loop-placed.placed-index c.placed-item.result c.loop-placed-test.true c.placed-item.is _ (fault_seen c.in-Some.finding)
    c.loop-placed.invariant c.in-Some.ensures

pub loop-placed-preserved : goal.loop-placed-preserved
loop-placed-preserved c =
    none_item placed_of (placed_fault (items_of c.args.names.now) c.args.around.now) c.args.statements.now c.loop-placed.placed-index c.placed-item.result c.loop-placed-test.true c.placed-item.is _
    c.loop-placed.invariant c.in_default.ensures
