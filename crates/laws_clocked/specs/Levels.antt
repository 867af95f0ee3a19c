-- A reset of a tick that is at its level, or not.
use Rattle.std.specs.Prelude.{◌≡◌, ℕ, Bool, true, false, List, Some, Ok}
use Rattle.laws_runs.specs.LogicValues.declared.kinds.Value.{Value}
use Rattle.laws_runs.specs.FlatDesign.Typed.{EachOf}
use Rattle.laws_runs.specs.SimModel.Values.{truth}
use Rattle.laws_runs.specs.SimModel.Residual.{settle}
use Rattle.laws_runs.specs.SimModel.Configuration.{Config, Instance, arena, instance_at}
use Rattle.laws_runs.specs.SimModel.Reading.{here, val}
use Rattle.laws_clocked.specs.Ticks.{Test}

-- what the test of this reset asks has this answer where p stands
pub record IsAnswered (c : Config) (p : ℕ) (x : Test) (so : Bool) : Type 0 where
  pub instance : Instance
  pub at : instance_at c p ≡ Some instance
  pub answer : Value
  pub is : val (here c p instance (settle (arena c) instance.residual)) x.is_at_level ≡ Ok answer
  pub says : truth answer ≡ so

-- the reset is at its level, or is not
abbrev pub IsAtLevel : Config → ℕ → Test → Type 0
IsAtLevel c p x = IsAnswered c p x true

abbrev pub IsNotAtLevel : Config → ℕ → Test → Type 0
IsNotAtLevel c p x = IsAnswered c p x false

abbrev pub NoneAtLevel : Config → ℕ → List Test → Type 0
NoneAtLevel c p tests = EachOf (IsNotAtLevel c p) tests
