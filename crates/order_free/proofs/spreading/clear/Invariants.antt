use Rattle.std.proofs.Common.{◌≡◌, drop}
use Rattle.order_free.specs.Spreading as spec
use Rattle.order_free.proofs.spreading.clear.Given as goal

abbrev pub invariant-loop-n : goal.invariant-loop-n
invariant-loop-n l = spec.cleared (drop l.n-index l.blocks) l.labels.items ≡ spec.cleared l.blocks l.fn.labels.items
