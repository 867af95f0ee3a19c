use Rattle.std.proofs.Common.{◌≡◌}
use Rattle.timed_queue.specs.Nodes.{Same}
use Rattle.timed_queue.specs.Sound.{IsWheel}
use Rattle.timed_queue.proofs.MoveLaws.{AreSpread, nodes_at}
use Rattle.timed_queue.proofs.wheel.Wheel.spread.Given as goal

abbrev pub invariant-spreading : goal.invariant-spreading
invariant-spreading l = record {
  sound : IsWheel l.self;
  same : Same l.initial.self.nodes.items l.self.nodes.items;
  spread : AreSpread l.place l.initial.self.origin l.t l.self.nodes.items;
  room : l.self.room ≡ l.initial.self.room;
}

abbrev pub decreases-spreading : goal.decreases-spreading
decreases-spreading l = nodes_at l.self.nodes.items l.place
