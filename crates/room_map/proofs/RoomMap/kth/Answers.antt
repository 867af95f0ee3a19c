use Rattle.std.proofs.Common.{ap, ◌∙◌}
use Rattle.std.specs.Prelude.{slice_get}
use Rattle.room_map.specs.Room.{Room}
use Rattle.room_map.specs.Layout.{tree}
use Rattle.room_map.proofs.CallEffects.{under_in}
use Rattle.room_map.proofs.RoomMap.kth.Goals as goal

pub kth-requires : goal.kth-requires
kth-requires g c = (tree c.self.inside.nodes.items c.self.inside.root, under_in c.as_slice.ensures.value c.self.invariant.under)

pub returns : goal.returns
returns g c =
    c.kth.ensures (tree c.self.inside.nodes.items c.self.inside.root) (under_in c.as_slice.ensures.value c.self.invariant.under) ∙ ap (λ (w : Room g.row.K.Denot g.row.V.Denot). slice_get w.entries c.args.k) c.self.view_is
