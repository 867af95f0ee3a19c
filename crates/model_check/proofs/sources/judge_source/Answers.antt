use Rattle.std.proofs.Common.{◌≡◌, Option, Some, None, subst, sym, ◌∙◌}
use Rattle.std.specs.Prelude.{IfErr, IfOk}
use Rattle.std.proofs.lemmas.Result.{err_from_is_err_and}
use Rattle.model_tree.specs.WholeTree.{model_of, source_of}
use Rattle.model_tree.specs.Stops.{IfRefused}
use Rattle.model_tree.specs.Tree as tree
use Rattle.model_tree.specs.declared.faults.Fault.{Fault}
use Rattle.tick_rules.specs.TickTrees.Ticks.{ticks}
use Rattle.tick_rules.specs.Sources.{modules_fault, resolution_fault, resolution_of, ticked, told_fault}
use Rattle.tick_rules.proofs.Same.{same_ticks}
use Rattle.model_check.proofs.Ticked.{of_modules}
use Rattle.model_check.proofs.TickJudgements.{first_refused, none_told, rules_hold}
use Rattle.model_check.proofs.sources.judge_source.Goals as goal

-- the fault of a resolution comes before all others
pub returns-in_err-judge_resolution-clause-refused : goal.returns-in_err-judge_resolution-clause-refused
returns-in_err-judge_resolution-clause-refused c =
    let p = err_from_is_err_and c.from_residual.result c.from_residual.ensures.1 in
    let s = source_of c.args.tree in
    rw (p.1, p.2) (first_refused _ (resolution_fault s.head) (modules_fault (resolution_of s.head) s.model) c.in_err-judge_resolution.ensures.refused)

pub returns-clause-ticks : goal.returns-clause-ticks
returns-clause-ticks c =
    let s = source_of c.args.tree in
    subst (λ (m : tree.Model). IfOk c.judge_ticks.result (λ t. model_of t ≡ m)) (same_ticks c.resolution_of-resolution.result (resolution_of s.head) s.model c.resolution_of-resolution.ensures) c.judge_ticks.ensures.ticks

pub returns-clause-accepted : goal.returns-clause-accepted
returns-clause-accepted c =
    let s = source_of c.args.tree in
    none_told told_fault c.judge_ticks.result _ _ _ (of_modules s c.resolution_of-resolution.result c.in_ok-judge_resolution.ensures.accepted c.resolution_of-resolution.ensures) c.judge_ticks.ensures.accepted

pub returns-clause-rules : goal.returns-clause-rules
returns-clause-rules c = rules_hold c.judge_ticks.result (ticks c.resolution_of-resolution.result (model_of c.args.tree)) c.judge_ticks.ensures.ticks c.judge_ticks.ensures.accepted

pub returns-clause-refused : goal.returns-clause-refused
returns-clause-refused c =
    let s = source_of c.args.tree in
    subst (λ (o : Option Fault). IfErr c.judge_ticks.result (λ stop. IfRefused stop (λ fault. o ≡ Some fault)))
    (sym (of_modules s c.resolution_of-resolution.result c.in_ok-judge_resolution.ensures.accepted c.resolution_of-resolution.ensures)) c.judge_ticks.ensures.refused
