use Rattle.std.proofs.Common.{◌≡◌, ◌≤◌, ◌++◌, length, take}
use Rattle.binding.proofs.ends.add_kept.Given as goal

abbrev pub invariant-loop-end : goal.invariant-loop-end
invariant-loop-end l = record {
  few : length l.found ≤ 65;
  so_far : l.found ≡ l.initial.found ++ take l.end-index l.ends;
}
