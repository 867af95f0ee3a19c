use Rattle.laws_reached.proofs.Unwinding.{throws-free, throws-free-next}
use Rattle.laws_reached.proofs.goals.throws_are_free.Goals as goal

pub returns : goal.returns
returns c = record { free = throws-free; next = throws-free-next }
