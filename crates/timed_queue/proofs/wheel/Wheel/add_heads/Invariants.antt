use Rattle.std.proofs.Common.{◌≡◌, ◌<◌, ℕ, length, vec_capacity}
use Rattle.timed_queue.specs.Nodes.{node_at}
use Rattle.timed_queue.proofs.RoomLaws.{lone}
use Rattle.timed_queue.proofs.wheel.Wheel.add_heads.Given as goal

abbrev pub invariant-heads : goal.invariant-heads
invariant-heads l = record {
  many : length l.self.nodes.items ≡ l.place;
  lone : (j : ℕ) → j < l.place → node_at l.self.nodes.items j ≡ lone j;
  marks : l.self.marks ≡ l.initial.self.marks;
  origin : l.self.origin ≡ l.initial.self.origin;
  free : l.self.free ≡ l.initial.self.free;
  room : l.self.room ≡ l.initial.self.room;
  capacity : vec_capacity l.self.nodes ≡ vec_capacity l.initial.self.nodes;
}
