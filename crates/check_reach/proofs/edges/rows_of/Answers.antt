use Rattle.std.proofs.Common.{◌++◌, ◌+◌, ℕ, List, length, drop, ap, ◌∙◌, arith}
use Rattle.std.proofs.lemmas.List.{length-set}
use Rattle.check_reach.specs.Edges.{targets}
use Rattle.check_reach.specs.Spreading.{row_of}
use Rattle.check_reach.proofs.Rows.{edge_added}
use Rattle.check_reach.proofs.edges.rows_of.Goals as goal

pub loop-edge-preserved : goal.loop-edge-preserved
loop-edge-preserved c =
    let rows = c.loop-edge.rows.items in
    let edges = c.args.edges.now in
    let i = c.loop-edge.edge-index in
    let e = c.in_ok-add_edge.ensures in
    record {
      many = ap (λ (x : List (List ℕ)). length x) e ∙ length-set rows _ _ ∙ c.loop-edge.invariant.many;
      rows = λ n below.
          ap (λ (x : List (List ℕ)). row_of x n ++ targets (drop (i + 1) edges) n) e
          ∙ edge_added rows edges i _ n c.loop-edge-test.true (let many = c.loop-edge.invariant.many in omega (arith, below, many)) (c.loop-edge.invariant.rows n below);
    }
