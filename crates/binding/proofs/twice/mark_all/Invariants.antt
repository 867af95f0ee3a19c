use Rattle.std.proofs.Common.{take}
use Rattle.binding.specs.Twice.{AreMarked}
use Rattle.binding.proofs.twice.mark_all.Given as goal

abbrev pub invariant-loop-b : goal.invariant-loop-b
invariant-loop-b l = AreMarked l.objects (take l.b-index l.links) l.initial.marks l.marks
