use Rattle.std.proofs.Common.{length, ◌-◌, ◌+◌, ◌≤◌}
use Rattle.std.specs.Io.KnownBytes.{Consumes}
use Rattle.sim_io.specs.Keeps.{ReadKeeps}
use Rattle.sim_io.proofs.transfer.read_opened.Given as goal

abbrev pub invariant-loop-buffer : goal.invariant-loop-buffer
invariant-loop-buffer g l = record {
  taken : Consumes (g.S.Shelf.left l.initial.shelf l.id) (g.S.Shelf.left l.shelf l.id) l.bytes.items;
  within : length l.bytes.items ≤ l.limit + 1;
  later : g.S.Shelf.reads l.initial.shelf ≤ g.S.Shelf.reads l.shelf;
  kept : ReadKeeps g.S.Shelf.files g.S.Shelf.writes g.S.Shelf.reading g.S.Shelf.created g.S.Shelf.stands l.initial.shelf l.shelf;
  reading : g.S.Shelf.reading l.shelf l.id;
}

abbrev pub decreases-loop-buffer : goal.decreases-loop-buffer
decreases-loop-buffer g l = l.limit + 1 - length l.bytes.items
