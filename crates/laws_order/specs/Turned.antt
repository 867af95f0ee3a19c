-- How a run goes on from where a process is taken.
use Rattle.std.specs.Prelude.{◌≡◌, ℕ, ◌+◌, List, [], ◌∷◌, Some}
use Rattle.sim_model.specs.FlatDesign.declared.design.Design.{Design}
use Rattle.sim_model.specs.Configuration.{Config}
use Rattle.sim_model.specs.Runs.{after}
use Rattle.order_free.specs.Free.{Uses}
use Rattle.laws_order.specs.Turns.{TakesTurn}

-- the process, which was taken to b, is still in its turn: it is alone on the stack, no other one was taken, and nobody became runnable
pub record IsInTurn (p : ℕ) (b : Config) (choices : List ℕ) (e : Config) : Type 0 where
  pub alone : e.processes.stack ≡ p ∷ []
  pub nobody : choices ≡ []
  pub runnable : e.processes.runnable ≡ b.processes.runnable
  pub cycle : e.cycle ≡ b.cycle

-- it made its turn, of so many steps, each of which is its own, and the run went on from there
pub record HasTurned (d : Design) (p : ℕ) (c : Config) (m : ℕ) (choices : List ℕ) (e : Config) : Type 0 where
  pub steps : ℕ
  pub left : ℕ
  pub counted : steps + left ≡ m
  pub turned : Config
  pub turn : TakesTurn (Uses d p) p steps c turned
  pub goes_on : after left choices turned ≡ Some e
