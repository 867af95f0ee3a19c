use Rattle.std.proofs.Common.{sym, ◌∙◌}
use Rattle.model_tree.specs.Views.{expression_of}
use Rattle.tick_trees.specs.Times.{in_expression}
use Rattle.tick_trees.specs.Unfit.{unfit_in}
use Rattle.tick_trees.proofs.Firsts.{goes_on, found_at, none_left}
use Rattle.tick_trees.proofs.expressions.in_each.Goals as goal

pub loop-e-preserved : goal.loop-e-preserved
loop-e-preserved c =
    goes_on (unfit_in c.args.r) in_expression expression_of c.args.es.now c.loop-e.e-index c.e-item.result c.loop-e-test.true c.e-item.is c.loop-e.invariant (sym c.in_expression.ensures ∙ c.in-None.is)

pub returns-in-Some : goal.returns-in-Some
returns-in-Some c =
    sym (found_at (unfit_in c.args.r) in_expression expression_of c.args.es.now c.loop-e.e-index c.e-item.result c.in-Some.unfit c.loop-e-test.true c.e-item.is c.loop-e.invariant (sym c.in_expression.ensures ∙ c.in-Some.is))

pub returns : goal.returns
returns c = sym (none_left (unfit_in c.args.r) in_expression expression_of c.args.es.now c.loop-e.e-index c.loop-e-test.false c.loop-e.invariant)
