use Rattle.std.proofs.Common.{◌+◌, ◌^◌, ◌<◌, ◌≤◌, length, ap, ◌∙◌, subst}
use Rattle.room_map.specs.Room.{Room}
use Rattle.room_map.specs.Entries.{IsRising}
use Rattle.room_map.specs.Layout.{tree}
use Rattle.room_map.proofs.Depths.{shallow}
use Rattle.room_map.proofs.CallEffects.{few_kept, under_in}
use Rattle.room_map.proofs.RoomMap.len.Goals as goal

pub returns-clause-len : goal.returns-clause-len
returns-clause-len g c =
    c.len.ensures (tree c.self.inside.nodes.items c.self.inside.root) (under_in c.as_slice.ensures.value c.self.invariant.under) ∙ ap (λ (w : Room g.row.K.Denot g.row.V.Denot). length w.entries) c.self.view_is

pub returns-clause-rising : goal.returns-clause-rising
returns-clause-rising g c = subst (λ (w : Room g.row.K.Denot g.row.V.Denot). IsRising g.K.Ord.cmp w.entries) c.self.view_is c.self.invariant.rises

pub returns-clause-few : goal.returns-clause-few
returns-clause-few g c = subst (λ (w : Room g.row.K.Denot g.row.V.Denot). length w.entries + w.spare < 2 ^ 32) c.self.view_is (few_kept c.self.invariant)

pub returns-clause-shallow : goal.returns-clause-shallow
returns-clause-shallow g c =
    subst (λ (w : Room g.row.K.Denot g.row.V.Denot). 2 ^ w.depth ≤ (length w.entries + 1) ^ 2) c.self.view_is (shallow (tree c.self.inside.nodes.items c.self.inside.root) c.self.invariant.balanced)
