use Rattle.std.proofs.Common.{length, ◌-◌, ◌≡◌, ◌≤◌, ℕ, List, take}
use Rattle.sim_io.specs.Contents.{AfterTold, Grows}
use Rattle.sim_io.specs.Keeps.{WriteKeeps}
use Rattle.sim_io.proofs.transfer.write_file.Given as goal

abbrev pub invariant-loop-done : goal.invariant-loop-done
invariant-loop-done g l = record {
  bytes : (name : List ℕ) → g.S.Shelf.stands l.initial.shelf l.id name →
      AfterTold (g.S.Shelf.files l.initial.shelf) (g.S.Shelf.files l.shelf) (Grows name (take l.done l.piece));
  within : l.done ≤ length l.piece;
  later : g.S.Shelf.writes l.initial.shelf ≤ g.S.Shelf.writes l.shelf;
  kept : WriteKeeps g.S.Shelf.files g.S.Shelf.reads g.S.Shelf.reading g.S.Shelf.created g.S.Shelf.stands l.initial.shelf l.shelf;
  created : g.S.Shelf.created l.shelf l.id;
  untouched : l.done ≡ 0 → l.shelf ≡ l.initial.shelf;
}

abbrev pub decreases-loop-done : goal.decreases-loop-done
decreases-loop-done g l = length l.piece - l.done
