use Rattle.std.proofs.Common.{◌+◌, List, drop, sym, ap, ◌∙◌}
use Rattle.model_tree.specs.Views.{module_of, modules_of}
use Rattle.model_tree.specs.declared.items.Item.{Item}
use Rattle.check_expressions.specs.CheckNames.ModuleNames.{items_of}
use Rattle.code_terms.specs.Names.{thrown_in_items, thrown_in_modules, with_all}
use Rattle.code_terms.proofs.Once.{all_append}
use Rattle.code_terms.proofs.Following.{next_seen}
use Rattle.code_terms.proofs.exceptions.add_modules.Goals as goal

pub loop-module-preserved : goal.loop-module-preserved
loop-module-preserved c =
    let modules = c.args.modules.now in
    let i = c.loop-module.module-index in
    let x = c.module-item.result in
    let names = c.loop-module.names in
    let more = thrown_in_modules (modules_of (drop (i + 1) modules)) in
    ap (λ ns. with_all ns more) (c.in_ok-add_items.ensures ∙ ap (λ (is : List Item). with_all names (thrown_in_items (items_of is))) c.as_slice.ensures.value)
    ∙ sym (all_append names (thrown_in_items (items_of x.items.items)) more)
    ∙ sym (ap (λ xs. with_all names (thrown_in_modules xs)) (next_seen module_of modules i x c.loop-module-test.true c.module-item.is))
    ∙ c.loop-module.invariant
