use Rattle.order_free.specs.Roots.{TellsHomes}
use Rattle.order_free.specs.Spreading.{AreEmpty}
use Rattle.order_free.proofs.checking.note_homes.Given as goal

abbrev pub invariant-loop-home : goal.invariant-loop-home
invariant-loop-home l = record { empty : AreEmpty l.parts l.labels.items; told : TellsHomes l.design l.home l.tables }
