use Rattle.std.proofs.Common.{◌≡◌, ◌++◌, take}
use Rattle.clocked.specs.Expanded.{put}
use Rattle.clocked.specs.Views.{expansion_in, kinds_in}
use Rattle.clocked.proofs.expansion.put.Given as goal

-- as many kinds as have been looked at are put in
abbrev pub invariant-loop-kind : goal.invariant-loop-kind
invariant-loop-kind l = expansion_in l.out ≡ expansion_in l.initial.out ++ put l.line (kinds_in (take l.kind-index l.kinds))
