use Rattle.laws_runs.proofs.UnwoundGuards.{kill-begins, reset-begins, throw-begins}
use Rattle.laws_runs.proofs.calls.calls_unwind_what_is_entered.Goals as goal

pub returns : goal.returns
returns x = record { kill = kill-begins; reset = reset-begins; throw = throw-begins }
