use Rattle.std.proofs.Common.{◌≡◌, drop}
use Rattle.check_reach.specs.Spreading as spec
use Rattle.check_reach.proofs.followed.reach_all.Given as goal

abbrev pub invariant-loop-n : goal.invariant-loop-n
invariant-loop-n l =
    spec.reach_all (drop l.n-index l.numbers) (l.marks.items, l.waiting.items) ≡ spec.reach_all l.numbers (l.fn.marks.items, l.fn.waiting.items)
