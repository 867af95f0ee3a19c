use Rattle.std.proofs.Common.{List, sym, ap, ◌∙◌}
use Rattle.model_tree.specs.declared.items.Item.{Item}
use Rattle.model_tree.specs.Views.{module_of}
use Rattle.check_expressions.specs.CheckNames.ModuleNames.{items_of}
use Rattle.check_expressions.specs.Findings.{fault_seen, faults_of}
use Rattle.check_reach.specs.Findings.{items_fault, module_fault}
use Rattle.check_reach.proofs.Turns.{found_item, none_item}
use Rattle.check_reach.proofs.whole.modules_finding.Goals as goal

pub returns-in-Some : goal.returns-in-Some
returns-in-Some c =
    let owner = c.owner-item.result in
    found_item module_of module_fault c.args.modules.now c.loop-owner.owner-index owner c.loop-owner-test.true c.owner-item.is _ (fault_seen c.in-Some.finding) c.loop-owner.invariant
    (sym (ap faults_of c.in-Some.is) ∙ c.in_ok-found.ensures ∙ ap (λ (is : List Item). items_fault (items_of is)) c.as_slice.ensures.value)

pub loop-owner-preserved : goal.loop-owner-preserved
loop-owner-preserved c =
    let owner = c.owner-item.result in
    none_item module_of module_fault c.args.modules.now c.loop-owner.owner-index owner c.loop-owner-test.true c.owner-item.is _ c.loop-owner.invariant
    (sym (ap faults_of c.in_default.is) ∙ c.in_ok-found.ensures ∙ ap (λ (is : List Item). items_fault (items_of is)) c.as_slice.ensures.value)
