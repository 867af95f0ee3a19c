use Rattle.std.proofs.Common.{◌≡◌, ◌-◌, ◌≤◌, ◌++◌, take, drop, vec_len}
use Rattle.std.specs.Vec.{vec_capacity}
use Rattle.kernel_bodies.specs.Unwound.{unwound_all}
use Rattle.kernel_bodies.proofs.unwinding.unwind_blocks.Given as goal

abbrev pub invariant-loop-place : goal.invariant-loop-place
invariant-loop-place l = record {
  order : l.kept ≤ l.place;
  few : l.place ≤ vec_len l.blocks;
  items : take l.kept l.blocks.items ++ unwound_all (drop l.place l.blocks.items) ≡ take l.from l.initial.blocks.items ++ unwound_all (drop l.from l.initial.blocks.items);
  capacity : vec_capacity l.blocks ≡ vec_capacity l.initial.blocks;
}

abbrev pub decreases-loop-place : goal.decreases-loop-place
decreases-loop-place l = vec_len l.blocks - l.place
