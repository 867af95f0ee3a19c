use Rattle.std.proofs.Common.{arith}
use Rattle.timed_queue.proofs.FreeLaws.{moved_twice}
use Rattle.timed_queue.proofs.wheel.Wheel.transfer.Goals as goal

pub enter-requires : goal.enter-requires
enter-requires c = record {
  sound = c.leave.ensures.sound;
  within = let e = c.leave.ensures.moved.as_many in omega (arith, e, c.requires.within);
  entry = c.requires.entry;
  loose = c.leave.ensures.moved.here;
  low = c.requires.low;
}

pub returns-clause-moved : goal.returns-clause-moved
returns-clause-moved c = moved_twice c.args.self.now.nodes.items c.leave.new.self.nodes.items c.enter.new.self.nodes.items c.args.i 705 c.args.place c.leave.ensures.moved c.enter.ensures.moved
