use Rattle.std.proofs.Common.{sym, ap, ◌∙◌}
use Rattle.std.specs.FinMap as map
use Rattle.room_map.specs.Room.{Room}
use Rattle.room_map.specs.Entries.{as_map}
use Rattle.room_map.specs.Shape.{entries}
use Rattle.room_map.specs.Layout.{tree}
use Rattle.room_map.proofs.Maps.{get-as_map, get-none}
use Rattle.room_map.proofs.CallEffects.{under_in}
use Rattle.room_map.proofs.RoomMap.get.Goals as goal

pub returns-clause-in_map : goal.returns-clause-in_map
returns-clause-in_map g c =
    let t = tree c.self.inside.nodes.items c.self.inside.root in
    c.get.ensures t (under_in c.as_slice.ensures.value c.self.invariant.under) c.self.invariant.rises
    ∙ sym (get-as_map g.met.K.Ord.total (entries t) c.args.key) ∙ ap (λ (w : Room g.row.K.Denot g.row.V.Denot). map.get (as_map g.K.Ord.cmp w.entries) c.args.key) c.self.view_is

pub returns-then-is_empty-clause-in_map : goal.returns-then-is_empty-clause-in_map
returns-then-is_empty-clause-in_map g c = get-none g.met.K.Ord.total c.args.key c.args.self.now.entries (sym c.is_empty.ensures ∙ c.if-is_empty.true)
