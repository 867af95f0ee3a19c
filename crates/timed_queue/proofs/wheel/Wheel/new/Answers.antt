use Rattle.std.proofs.Common.{length, ap}
use Rattle.timed_queue.proofs.RoomLaws.{whole_none}
use Rattle.timed_queue.proofs.wheel.Wheel.new.Goals as goal

pub returns-clause-sound : goal.returns-clause-sound
returns-clause-sound c = whole_none c.new.result.items c.new-2.result.words (ap length c.new.ensures.items) c.new-2.ensures
