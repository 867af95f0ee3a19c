use Rattle.std.proofs.Common.{◌≡◌, drop}
use Rattle.order_free.specs.Spreading as spec
use Rattle.order_free.proofs.spreading.raise_roots.Given as goal

abbrev pub invariant-loop-root : goal.invariant-loop-root
invariant-loop-root l = spec.raise_roots (drop l.root-index l.roots) (l.labels.items, l.listing.items) ≡ spec.raise_roots l.roots (l.fn.labels.items, l.fn.listing.items)
