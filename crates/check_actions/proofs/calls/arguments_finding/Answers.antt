use Rattle.std.proofs.Common.{List, refl}
use Rattle.model_tree.specs.Views.{expression_of, expressions_of}
use Rattle.model_tree.specs.declared.expressions.Expression.{Expression}
use Rattle.check_expressions.specs.ModelRules.Sites.{expression_sites, argument_sites}
use Rattle.check_expressions.specs.CheckNames.Places.{scope_of}
use Rattle.check_expressions.specs.Findings.{fault_seen}
use Rattle.check_actions.proofs.Parts.{found_along, none_along}
use Rattle.check_actions.proofs.calls.arguments_finding.Goals as goal

pub returns-in-Some : goal.returns-in-Some
returns-in-Some c =
    let s = scope_of c.args.place.now in
    found_along (λ (es : List Expression). argument_sites s (expressions_of es)) (λ (e : Expression). expression_sites s (expression_of e)) (λ e es. refl) c.args.arguments.now
    c.loop-argument.argument-index c.argument-item.result c.loop-argument-test.true c.argument-item.is _ (fault_seen c.in-Some.finding) c.loop-argument.invariant c.in-Some.ensures

pub loop-argument-preserved : goal.loop-argument-preserved
loop-argument-preserved c =
    let s = scope_of c.args.place.now in
    none_along (λ (es : List Expression). argument_sites s (expressions_of es)) (λ (e : Expression). expression_sites s (expression_of e)) (λ e es. refl) c.args.arguments.now
    c.loop-argument.argument-index c.argument-item.result c.loop-argument-test.true c.argument-item.is _ c.loop-argument.invariant c.in_default.ensures
