use Rattle.std.proofs.Common.{◌+◌, drop, sym, ap, ◌∙◌}
use Rattle.model_tree.specs.Views.{item_of}
use Rattle.check_expressions.specs.CheckNames.ModuleNames.{items_of}
use Rattle.code_rules.specs.Bodies.{exceptions_in_item}
use Rattle.code_terms.specs.Names.{thrown_in_items, with_all}
use Rattle.code_terms.proofs.Once.{all_append}
use Rattle.code_terms.proofs.Following.{next_seen}
use Rattle.code_terms.proofs.exceptions.add_items.Goals as goal

pub loop-item-preserved : goal.loop-item-preserved
loop-item-preserved c =
    let items = c.args.items.now in
    let i = c.loop-item.item-index in
    let x = c.item-item.result in
    let names = c.loop-item.names in
    let more = thrown_in_items (items_of (drop (i + 1) items)) in
    ap (λ ns. with_all ns more) c.in_ok-add_item.ensures
    ∙ sym (all_append names (exceptions_in_item (item_of x)) more)
    ∙ sym (ap (λ xs. with_all names (thrown_in_items xs)) (next_seen item_of items i x c.loop-item-test.true c.item-item.is))
    ∙ c.loop-item.invariant
