-- What a tick of a tree keeps in every run of a design that has it in its code.
use Rattle.std.specs.Prelude.{◌≡◌, ◌<◌, ◌++◌, ℕ, List, ◌∷◌, Some}
use Rattle.expanded_text.specs.Clocked.{Tick}
use Rattle.laws_runs.specs.FlatDesign.declared.design.Design.{Design}
use Rattle.laws_runs.specs.SimModel.Residual.{Residual, Frame, settle}
use Rattle.laws_runs.specs.SimModel.Configuration.{Config, arena, start}
use Rattle.laws_runs.specs.SimModel.Steps.{step, takes, taking}
use Rattle.laws_runs.specs.SimModel.Runs.{after}
use Rattle.laws_runs.specs.SimModel.Clean.{times}
use Rattle.laws_runs.specs.SimModel.declared.plain.Command.{Command}
use Rattle.laws_clocked.specs.Ticks as coded
use Rattle.laws_clocked.specs.Ticks.{Test}
use Rattle.laws_clocked.specs.Turns.{LeavesNormally, IsBehindWait}
use Rattle.laws_clocked.specs.Levels.{NoneAtLevel, IsAtLevel}
use Rattle.laws_clocked.specs.Wakes.{FollowsWake}
use Rattle.laws_clocked.specs.Again.{Around, trying, BeginsFirst}

-- The tick of the tree is this one of the code. Between the entering of it and where it is left normally its thread is taken exactly as
-- many times as the tick of the tree says (`counted`); at none of these takings is a reset of it at its level (`levels`); and each of
-- them follows a wake by an event of its static sensitivity since the wait before it (`follows`). Where a thread with this body is taken
-- out of the wait of the tick, and a reset of the tick is then at its level and none before it, its own statements begin again, from the
-- first, before it leaves the stack (`begins`).
pub record KeepsTick (design : Design) (script : List Command) (around : Around) (function : ℕ) (t : Tick) (u : coded.Tick) : Type 0 where
  pub counted : (steps : ℕ) (chosen : List ℕ) (c : Config) → after steps chosen (start design script) ≡ Some c
      → (p n : ℕ) (choices : List ℕ) (e : Config) → LeavesNormally c e p u n choices → times p choices ≡ t.edges
  pub levels : (steps : ℕ) (chosen : List ℕ) (c : Config) → after steps chosen (start design script) ≡ Some c
      → (p n : ℕ) (choices : List ℕ) (e : Config) → LeavesNormally c e p u n choices
      → (k : ℕ) (own left : List ℕ) (x : Config) → k < n → choices ≡ own ++ p ∷ left → after k own c ≡ Some x → step x ≡ takes → NoneAtLevel x p u.tests
  pub follows : (steps : ℕ) (chosen : List ℕ) (c : Config) → after steps chosen (start design script) ≡ Some c
      → (p n : ℕ) (choices : List ℕ) (e : Config) → LeavesNormally c e p u n choices
      → (k : ℕ) (own left : List ℕ) (x : Config) → k < n → choices ≡ own ++ p ∷ left → after k own c ≡ Some x → step x ≡ takes → FollowsWake c p k own x
  pub begins : (steps : ℕ) (chosen : List ℕ) (c : Config) → after steps chosen (start design script) ≡ Some c
      → (p : ℕ) (w : IsBehindWait c p u) → step c ≡ takes → (d : Config) → taking c p ≡ Some d
      → (before : List Test) (y : Test) (behind : List Test) → u.tests ≡ before ++ y ∷ behind → NoneAtLevel c p before → IsAtLevel c p y
      → (f : Frame) (r : Residual) → f.body ≡ function → settle (arena c) w.instance.residual ≡ trying around f r
      → BeginsFirst d p around
