use Rattle.std.proofs.Common.{◌≡◌, ◌+◌, length, vec_capacity}
use Rattle.timed_queue.specs.Nodes.{Grown}
use Rattle.timed_queue.specs.Sound.{IsWheel}
use Rattle.timed_queue.proofs.wheel.Wheel.add_free.Given as goal

abbrev pub invariant-nodes : goal.invariant-nodes
invariant-nodes l = record {
  sound : IsWheel l.self;
  longer : length l.self.nodes.items ≡ length l.initial.self.nodes.items + l.node;
  grown : Grown l.initial.self.nodes.items l.self.nodes.items;
  origin : l.self.origin ≡ l.initial.self.origin;
  room : l.self.room ≡ l.initial.self.room + l.node;
  capacity : vec_capacity l.self.nodes ≡ vec_capacity l.initial.self.nodes;
}
