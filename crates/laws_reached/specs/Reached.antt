-- What a run comes to.
use Rattle.std.specs.Prelude.{◌≡◌, ◌+◌, ◌++◌, ℕ, false, List, Some}
use Rattle.flat_design.specs.Sound.{SoundDesign}
use Rattle.flat_design.specs.declared.design.Design.{Design}
use Rattle.laws_runs.specs.SimModel.Configuration.{Config, start}
use Rattle.laws_runs.specs.SimModel.Runs.{after}
use Rattle.laws_runs.specs.SimModel.declared.plain.Command.{Command}

-- a run of a sound design comes to this configuration
pub record IsReached (c : Config) : Type 0 where
  pub design : Design
  pub script : List Command
  pub steps : ℕ
  pub choices : List ℕ
  pub sound : SoundDesign design
  pub is_run : after steps choices (start design script) ≡ Some c

-- one step more, with these choices, comes to d
pub record GoesOn (c d : Config) (run : IsReached c) (own : List ℕ) : Type 0 where
  pub next : IsReached d
  pub design : next.design ≡ run.design
  pub script : next.script ≡ run.script
  pub steps : next.steps ≡ run.steps + 1
  pub choices : next.choices ≡ run.choices ++ own
