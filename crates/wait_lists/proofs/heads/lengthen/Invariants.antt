use Rattle.std.proofs.Common.{◌≡◌, ℕ, ◌-◌, ◌≤◌, length}
use Rattle.std.specs.Prelude.{vec_capacity}
use Rattle.wait_lists.specs.Nodes.{at_tag}
use Rattle.wait_lists.proofs.heads.lengthen.Given as goal

abbrev pub invariant-loop-near : goal.invariant-loop-near
invariant-loop-near l = record {
  same : (c : ℕ) → at_tag l.near.items c ≡ at_tag l.fn.near.items c;
  memory : l.codes ≤ vec_capacity l.near;
}

abbrev pub decreases-loop-near : goal.decreases-loop-near
decreases-loop-near l = l.codes - length l.near.items
