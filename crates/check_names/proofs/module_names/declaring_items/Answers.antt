use Rattle.std.proofs.Common.{filter}
use Rattle.check_names.specs.ModuleNames.{items_of, is_declaring, names_declared}
use Rattle.check_names.proofs.ModuleLemmas.{turn, numbered_turn, one_declaring, one_named, longer_named}
use Rattle.check_names.proofs.module_names.declaring_items.Goals as goal

pub loop-item-preserved : goal.loop-item-preserved
loop-item-preserved c =
    let xs = c.args.items.now in
    let k = c.loop-item.item-index in
    let x = c.item-item.result in
    let e = c.in_ok-add_item.ensures in
    record {
      declared = turn (filter is_declaring) one_declaring xs k x c.loop-item-test.true c.item-item.is _ _ _ e.items c.loop-item.invariant.declared;
      named = numbered_turn (λ is. names_declared (items_of is)) one_named xs k x c.loop-item-test.true c.item-item.is _ _ _ _ _ e.places (longer_named _ _ x e.items) c.loop-item.invariant.named;
    }
