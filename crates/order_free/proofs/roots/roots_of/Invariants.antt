use Rattle.order_free.specs.Roots.{AreRoots}
use Rattle.order_free.proofs.roots.roots_of.Given as goal

abbrev pub invariant-loop-p : goal.invariant-loop-p
invariant-loop-p l = AreRoots l.design l.p l.rows.items
