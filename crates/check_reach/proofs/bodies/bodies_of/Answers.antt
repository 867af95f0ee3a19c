use Rattle.std.proofs.Common.{◌∷◌, [], List}
use Rattle.check_expressions.specs.CheckNames.ModuleNames.{items_of}
use Rattle.model_tree.specs.declared.items.Item.{Item}
use Rattle.model_tree.specs.Views.{item_of}
use Rattle.check_reach.specs.Flat.{flats_in, seen_list}
use Rattle.check_reach.proofs.Turns.{turn}
use Rattle.check_reach.proofs.SiteWalk.{next_flats}
use Rattle.check_reach.proofs.bodies.bodies_of.Goals as goal

pub loop-item-preserved : goal.loop-item-preserved
loop-item-preserved c =
    turn (λ (is : List Item). flats_in (items_of is)) (λ (i : Item). flats_in (item_of i ∷ [])) (λ i is. next_flats (item_of i) (items_of is)) c.args.items.now c.loop-item.item-index c.item-item.result c.loop-item-test.true c.item-item.is
    (seen_list c.loop-item.bodies.items) _ _ c.in_ok-add_body.ensures c.loop-item.invariant
