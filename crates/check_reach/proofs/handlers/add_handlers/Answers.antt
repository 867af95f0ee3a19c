use Rattle.std.proofs.Common.{ℕ, List, map, refl}
use Rattle.std.specs.List.{flat_map}
use Rattle.std.specs.Borrow.{Bor}
use Rattle.check_expressions.specs.CheckNames.ModuleNames.{items_of}
use Rattle.model_tree.specs.declared.items.Item.{Item}
use Rattle.model_tree.specs.Views.{item_of}
use Rattle.check_reach.specs.Flat.{all_handlers}
use Rattle.check_reach.proofs.Turns.{turn}
use Rattle.check_reach.proofs.handlers.add_handlers.Goals as goal

pub loop-item-preserved : goal.loop-item-preserved
loop-item-preserved c =
    turn (λ (is : List Item). flat_map all_handlers (items_of is)) (λ (i : Item). all_handlers (item_of i)) (λ i is. refl) c.args.items.now c.loop-item.item-index c.item-item.result c.loop-item-test.true c.item-item.is
    (map (λ (n : Bor (List ℕ)). n.now) c.loop-item.names.items) _ _ c.in_ok-add_all.ensures c.loop-item.invariant
