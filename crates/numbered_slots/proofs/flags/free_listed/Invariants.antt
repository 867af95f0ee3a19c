use Rattle.std.proofs.Common.{drop}
use Rattle.numbered_slots.specs.MarkLayout.{ListsEachOnce}
use Rattle.numbered_slots.proofs.flags.free_listed.Given as goal

abbrev pub invariant-loop-n : goal.invariant-loop-n
invariant-loop-n l = ListsEachOnce l.flags (drop l.n-index l.listed)
