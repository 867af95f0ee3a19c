use Rattle.check_expressions.specs.CheckNames.ModuleNames.{items_of}
use Rattle.check_expressions.specs.Findings.{fault_seen}
use Rattle.check_reach.specs.Flat.{seen}
use Rattle.check_reach.specs.Findings.{flat_fault}
use Rattle.check_reach.proofs.Turns.{found_item, none_item}
use Rattle.check_reach.proofs.findings.bodies_finding.Goals as goal

pub returns-in-Some : goal.returns-in-Some
returns-in-Some c =
    found_item seen (flat_fault (items_of c.args.names.now)) c.args.bodies.now c.loop-body.body-index c.body-item.result c.loop-body-test.true c.body-item.is _ (fault_seen c.in-Some.finding) c.loop-body.invariant c.in-Some.ensures

pub loop-body-preserved : goal.loop-body-preserved
loop-body-preserved c =
    none_item seen (flat_fault (items_of c.args.names.now)) c.args.bodies.now c.loop-body.body-index c.body-item.result c.loop-body-test.true c.body-item.is _ c.loop-body.invariant c.in_default.ensures
