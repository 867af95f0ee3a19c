use Rattle.std.proofs.Common.{map, [], ◌∷◌}
use Rattle.check_names.specs.ModelTree.Views.{item_of}
use Rattle.elaborate_objects.specs.Names.{names_of_bodies}
use Rattle.elaborate_objects.proofs.BodyLemmas.{turn, one_named}
use Rattle.elaborate_objects.proofs.row_names.bodies_among.Goals as goal

pub loop-item-preserved : goal.loop-item-preserved
loop-item-preserved c =
    turn (λ is. names_of_bodies (map item_of is)) (λ x. names_of_bodies (item_of x ∷ [])) one_named c.args.items.now c.loop-item.item-index c.item-item.result c.loop-item-test.true
    c.item-item.is _ _ _ c.in_ok-add_body.ensures c.loop-item.invariant
