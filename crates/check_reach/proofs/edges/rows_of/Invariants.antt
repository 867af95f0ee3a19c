use Rattle.std.proofs.Common.{◌≡◌, ◌<◌, ◌++◌, ℕ, drop, length}
use Rattle.check_reach.specs.Edges.{targets}
use Rattle.check_reach.specs.Spreading.{row_of}
use Rattle.check_reach.proofs.edges.rows_of.Given as goal

abbrev pub invariant-loop-edge : goal.invariant-loop-edge
invariant-loop-edge l = record {
  many : length l.rows.items ≡ l.count;
  rows : (n : ℕ) → n < l.count → row_of l.rows.items n ++ targets (drop l.edge-index l.edges) n ≡ targets l.edges n;
}
