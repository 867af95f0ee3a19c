use Rattle.std.proofs.Common.{ap}
use Rattle.room_map.specs.Shape.{entries}
use Rattle.room_map.proofs.CallEffects.{none_kept, kept_as, kept_tree}
use Rattle.room_map.proofs.RoomMap.new.Goals as goal

pub invariant_of-result : goal.invariant_of-result
invariant_of-result g c = kept_as (none_kept g.K.Ord.cmp c.new.result.items c.new.ensures.items)

pub returns-clause-empty : goal.returns-clause-empty
returns-clause-empty g c = ap entries (kept_tree (none_kept g.K.Ord.cmp c.new.result.items c.new.ensures.items))
