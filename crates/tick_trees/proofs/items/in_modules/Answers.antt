use Rattle.std.proofs.Common.{List, map, sym, ap, ◌∙◌}
use Rattle.std.specs.List.{flat_map}
use Rattle.model_tree.specs.Views.{item_of, module_of}
use Rattle.model_tree.specs.declared.items.Item.{Item}
use Rattle.tick_trees.specs.Times.{in_item, in_module}
use Rattle.tick_trees.specs.Unfit.{first, unfit_in}
use Rattle.tick_trees.proofs.Firsts.{goes_on, found_at, none_left}
use Rattle.tick_trees.proofs.items.in_modules.Goals as goal

pub loop-module-preserved : goal.loop-module-preserved
loop-module-preserved c =
    let f = unfit_in c.args.r in
    goes_on f in_module module_of c.args.modules.now c.loop-module.module-index c.module-item.result c.loop-module-test.true c.module-item.is c.loop-module.invariant
    (ap (λ (is : List Item). first f (flat_map in_item (map item_of is))) (sym c.as_slice.ensures.value) ∙ sym c.in_items.ensures ∙ c.in-None.is)

pub returns-in-Some : goal.returns-in-Some
returns-in-Some c =
    let f = unfit_in c.args.r in
    sym (found_at f in_module module_of c.args.modules.now c.loop-module.module-index c.module-item.result c.in-Some.unfit c.loop-module-test.true c.module-item.is c.loop-module.invariant
    (ap (λ (is : List Item). first f (flat_map in_item (map item_of is))) (sym c.as_slice.ensures.value) ∙ sym c.in_items.ensures ∙ c.in-Some.is))

pub returns : goal.returns
returns c = sym (none_left (unfit_in c.args.r) in_module module_of c.args.modules.now c.loop-module.module-index c.loop-module-test.false c.loop-module.invariant)
