-- Steps from two configurations that lead to the same.
use Rattle.std.specs.Prelude.{◌≡◌, ⊤, [], Option, Some, None}
use Rattle.sim_model.specs.Configuration.{Config}
use Rattle.sim_model.specs.Steps.{Outcome, went, faulted, takes, ended}
use Rattle.sim_model.specs.declared.plain.Phase.TheVariants as phase
use Rattle.laws_order.specs.Same.{Same}

-- both go, to the same; or both are the same fault; or both take a process; or both have ended
abbrev pub SameOutcome : Outcome → Outcome → Type 0
SameOutcome (went e) (went y) = Same e y
SameOutcome (went e) (faulted g) = ⊥
SameOutcome (went e) takes = ⊥
SameOutcome (went e) ended = ⊥
SameOutcome (faulted f) (went y) = ⊥
SameOutcome (faulted f) (faulted g) = g ≡ f
SameOutcome (faulted f) takes = ⊥
SameOutcome (faulted f) ended = ⊥
SameOutcome takes (went y) = ⊥
SameOutcome takes (faulted g) = ⊥
SameOutcome takes takes = ⊤
SameOutcome takes ended = ⊥
SameOutcome ended (went y) = ⊥
SameOutcome ended (faulted g) = ⊥
SameOutcome ended takes = ⊥
SameOutcome ended ended = ⊤

-- both took the process, to the same; or it is runnable in neither
abbrev pub SameTaking : Option Config → Option Config → Type 0
SameTaking None None = ⊤
SameTaking None (Some y) = ⊥
SameTaking (Some e) None = ⊥
SameTaking (Some e) (Some y) = Same e y

-- no process is in its turn
abbrev pub IsBetweenTurns : Config → Type 0
IsBetweenTurns c = c.cycle.phase ≡ phase.Evaluate → c.processes.stack ≡ []
