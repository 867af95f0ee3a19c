use Rattle.std.proofs.Common.{sym, ◌∙◌}
use Rattle.room_map.proofs.Maps.{remove-none}
use Rattle.room_map.proofs.RoomMap.remove.Goals as goal

pub returns-then-is_empty-clause-in_map : goal.returns-then-is_empty-clause-in_map
returns-then-is_empty-clause-in_map g c = λ exact. remove-none g.met.K.Ord.total exact c.args.key c.args.self.now.entries (sym c.is_empty.ensures ∙ c.if-is_empty.true)
