use Rattle.std.proofs.Common.{length, ◌-◌}
use Rattle.wait_lists.proofs.Reading.{Reads}
use Rattle.wait_lists.proofs.layout.has_nodes_for.Given as goal

abbrev pub invariant-loop-k : goal.invariant-loop-k
invariant-loop-k l = record { reads : Reads l.kept l.at l.list l.i l.k }

abbrev pub decreases-loop-k : goal.decreases-loop-k
decreases-loop-k l = length l.list - l.k
