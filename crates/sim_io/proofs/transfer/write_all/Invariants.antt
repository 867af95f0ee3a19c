use Rattle.std.proofs.Common.{length, ◌-◌, ◌≡◌, ◌≤◌, take}
use Rattle.sim_io.specs.Contents.{Grew}
use Rattle.sim_io.proofs.transfer.write_all.Given as goal

abbrev pub invariant-loop-done : goal.invariant-loop-done
invariant-loop-done g l = record {
  bytes : Grew (g.O.Sink.holds l.initial.sink) (g.O.Sink.holds l.sink) (take l.done l.piece);
  within : l.done ≤ length l.piece;
  later : g.O.Sink.faults l.initial.sink ≤ g.O.Sink.faults l.sink;
  untouched : l.done ≡ 0 → l.sink ≡ l.initial.sink;
}

abbrev pub decreases-loop-done : goal.decreases-loop-done
decreases-loop-done g l = length l.piece - l.done
