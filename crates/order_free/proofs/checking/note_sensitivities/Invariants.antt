use Rattle.order_free.specs.Roots.{TellsSensitivity}
use Rattle.order_free.proofs.checking.note_sensitivities.Given as goal

abbrev pub invariant-loop-p : goal.invariant-loop-p
invariant-loop-p l = TellsSensitivity l.design l.p l.tables
