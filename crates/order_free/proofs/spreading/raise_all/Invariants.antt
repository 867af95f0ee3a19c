use Rattle.std.proofs.Common.{◌≡◌, drop}
use Rattle.order_free.specs.Spreading as spec
use Rattle.order_free.proofs.spreading.raise_all.Given as goal

abbrev pub invariant-loop-n : goal.invariant-loop-n
invariant-loop-n l = spec.raise_all l.x (drop l.n-index l.blocks) (l.labels.items, l.listing.items) ≡ spec.raise_all l.x l.blocks (l.fn.labels.items, l.fn.listing.items)
