-- Where an evaluation phase stands between turns, and the first configuration of a run in which something holds.
use Rattle.std.specs.Prelude.{◌≡◌, ◌<◌, ◌++◌, ⊤, ℕ, false, List, [], Some}
use Rattle.sim_model.specs.Configuration.{Config}
use Rattle.sim_model.specs.Steps.{Outcome, went, faulted, takes, ended, step}
use Rattle.sim_model.specs.Runs.{after}
use Rattle.sim_model.specs.declared.plain.Phase.TheVariants as phase

-- in an evaluation phase, with nobody in its turn
pub record Evaluates (c : Config) : Type 0 where
  pub evaluation : c.cycle.phase ≡ phase.Evaluate
  pub nobody : c.processes.stack ≡ []

-- and with nobody runnable: the update phase comes next
pub record IsAtUpdate (c : Config) : Type 0 where
  pub evaluates : Evaluates c
  pub none : c.processes.runnable ≡ []

-- by so many steps with these choices a run from c comes to e, of which P holds, and of none that it came to before, c among them
pub record IsFirst (P : Config → Type 0) (n : ℕ) (choices : List ℕ) (c e : Config) : Type 0 where
  pub is_run : after n choices c ≡ Some e
  pub holds : P e
  pub none_before : (m : ℕ) (own left : List ℕ) (d : Config) → m < n → choices ≡ own ++ left → after m own c ≡ Some d → P d → ⊥

-- the session has ended, and not because the model asked to stop
pub record IsDone (c : Config) : Type 0 where
  pub is_ended : step c ≡ ended
  pub not_stopped : c.cycle.stopped ≡ false

-- the run goes on: by a step, or by taking a process
abbrev pub GoesOn : Outcome → Type 0
GoesOn (went d) = ⊤
GoesOn (faulted f) = ⊥
GoesOn takes = ⊤
GoesOn ended = ⊥
