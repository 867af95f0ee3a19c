use Rattle.std.proofs.Common.{sym, ◌∙◌}
use Rattle.model_tree.specs.Views.{item_of}
use Rattle.tick_trees.specs.Times.{in_item}
use Rattle.tick_trees.specs.Unfit.{unfit_in}
use Rattle.tick_trees.proofs.Firsts.{goes_on, found_at, none_left}
use Rattle.tick_trees.proofs.items.in_items.Goals as goal

pub loop-item-preserved : goal.loop-item-preserved
loop-item-preserved c =
    goes_on (unfit_in c.args.r) in_item item_of c.args.items.now c.loop-item.item-index c.item-item.result c.loop-item-test.true c.item-item.is c.loop-item.invariant (sym c.in_item.ensures ∙ c.in-None.is)

pub returns-in-Some : goal.returns-in-Some
returns-in-Some c =
    sym (found_at (unfit_in c.args.r) in_item item_of c.args.items.now c.loop-item.item-index c.item-item.result c.in-Some.unfit c.loop-item-test.true c.item-item.is c.loop-item.invariant (sym c.in_item.ensures ∙ c.in-Some.is))

pub returns : goal.returns
returns c = sym (none_left (unfit_in c.args.r) in_item item_of c.args.items.now c.loop-item.item-index c.loop-item-test.false c.loop-item.invariant)
