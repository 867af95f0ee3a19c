use Rattle.std.proofs.Common.{length, ⊎_elim, arith}
use Rattle.std.proofs.lemmas.Bool.{cases_lt}
use Rattle.std.proofs.lemmas.List.{get_or_past}
use Rattle.kernel_channels.proofs.changes.forget_rounds.Goals as goal

pub returns-clause-zero : goal.returns-clause-zero
returns-clause-zero c = λ k. ⊎_elim
    (λ h. c.loop-round.invariant k (omega (arith, h)))
    (λ past. get_or_past c.loop-round.rounds k 0 past)
    (cases_lt k (length c.loop-round.rounds))
