use Rattle.std.proofs.Common.{◌≡◌, take}
use Rattle.kernel_start.specs.Made.{no_parents}
use Rattle.kernel_start.proofs.parts.first_parents.Given as goal

abbrev pub invariant-loop-part : goal.invariant-loop-part
invariant-loop-part l = l.parents.items ≡ no_parents (take l.part-index l.parts)
