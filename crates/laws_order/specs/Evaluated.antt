-- An evaluation phase: turns of processes, one after another.
use Rattle.std.specs.Prelude.{◌≡◌, ℕ, suc, ◌+◌, List, [], ◌∷◌, ◌++◌, map, Some, IsPermutation}
use Rattle.sim_model.specs.FlatDesign.declared.design.Design.{Design}
use Rattle.sim_model.specs.Configuration.{Config}
use Rattle.sim_model.specs.Runs.{after}
use Rattle.order_free.specs.Free.{Uses}
use Rattle.laws_order.specs.Turns.{TakesTurn}

-- who has a turn, and in how many steps
pub record TurnOf : Type 0 where
  pub serial : ℕ
  pub steps : ℕ

-- such turns one after another, each made of steps of the process's own
pub data TakesTurns (d : Design) : List TurnOf → Config → Config → Type 0 where
  no_turn : (c : Config) → TakesTurns d [] c c
  turn_then : (t : TurnOf) (ts : List TurnOf) (c e f : Config) → TakesTurn (Uses d t.serial) t.serial t.steps c e → TakesTurns d ts e f → TakesTurns d (t ∷ ts) c f

abbrev pub serials_of : List TurnOf → List ℕ
serials_of ts = map (λ (t : TurnOf). t.serial) ts

-- the taking of a process is a step too
abbrev pub steps_of : List TurnOf → ℕ
steps_of [] = 0
steps_of (t ∷ ts) = suc t.steps + steps_of ts

-- The run was through with the evaluation phase by these turns, of all who were runnable at its beginning, each once; then nobody is
-- runnable or on the stack, and the run went on from there.
pub record HasEvaluated (d : Design) (c : Config) (m : ℕ) (choices : List ℕ) (e : Config) : Type 0 where
  pub turns : List TurnOf
  pub each : IsPermutation c.processes.runnable (serials_of turns)
  pub turned : Config
  pub taken : TakesTurns d turns c turned
  pub nobody : turned.processes.runnable ≡ []
  pub empty : turned.processes.stack ≡ []
  pub cycle : turned.cycle ≡ c.cycle
  pub left : ℕ
  pub counted : steps_of turns + left ≡ m
  pub more : List ℕ
  pub chosen : serials_of turns ++ more ≡ choices
  pub goes_on : after left more turned ≡ Some e
