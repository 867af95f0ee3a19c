use Rattle.kernel_processes.proofs.Places.{room_left, joined_changes, joined_places}
use Rattle.kernel_processes.proofs.moves.join.Goals as goal

pub insert-requires-clause-room : goal.insert-requires-clause-room
insert-requires-clause-room g c = room_left c.args.s.now c.args.p c.requires.places c.requires.live

pub insert-requires-clause-below : goal.insert-requires-clause-below
insert-requires-clause-below g c = c.requires.places.serials c.args.p c.requires.live

pub returns-clause-changes : goal.returns-clause-changes
returns-clause-changes g c = joined_changes c.args.s.now c.args.p c.requires.places c.requires.live _ c.insert.ensures

pub returns-clause-places : goal.returns-clause-places
returns-clause-places g c = joined_places c.args.s.now c.args.p c.requires.places c.requires.live _ c.insert.ensures
