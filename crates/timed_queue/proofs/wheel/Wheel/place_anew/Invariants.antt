use Rattle.std.proofs.Common.{◌≡◌}
use Rattle.timed_queue.specs.Nodes.{Same}
use Rattle.timed_queue.specs.Sound.{IsWheel, ArePlacedBelow}
use Rattle.timed_queue.proofs.wheel.Wheel.place_anew.Given as goal

abbrev pub invariant-placing : goal.invariant-placing
invariant-placing l = record {
  sound : IsWheel l.self;
  same : Same l.initial.self.nodes.items l.self.nodes.items;
  placed : ArePlacedBelow l.self.nodes.items l.t l.i;
  room : l.self.room ≡ l.initial.self.room;
}
