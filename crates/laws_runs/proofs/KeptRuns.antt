-- Every run of a sound design keeps what each of its moves keeps.
use Rattle.std.proofs.Common.{◌≡◌, ℕ, List, Some}
use Rattle.sim_model.specs.FlatDesign.Sound.{SoundDesign}
use Rattle.sim_model.specs.FlatDesign.declared.design.Design.{Design}
use Rattle.sim_model.specs.Configuration.{Config, start}
use Rattle.sim_model.specs.Steps.{Outcome, went, faulted, takes, ended, step}
use Rattle.sim_model.specs.Runs.{after}
use Rattle.sim_model.specs.declared.plain.Command.{Command}
use Rattle.laws_runs.proofs.GoalMoves.{Sound}
use Rattle.laws_runs.proofs.GoalSteps.{IfWent, step-sound, taking-sound, start-sound, takes-empty}
use Rattle.laws_runs.proofs.GoalRuns.{holds-after}
use Rattle.laws_runs.proofs.GoalParts.{Parts, Kept, IsKept, IsSettled, IsKeptBetween, IsKeptByTakings}
use Rattle.laws_runs.proofs.KeptSteps as steps

both : (A B : Config → Type 0) (o : Outcome) → IfWent o A → IfWent o B → IfWent o (λ d. A d × B d)
both A B (went d) one two = (one, two)
both A B (faulted f) one two = tt
both A B takes one two = tt
both A B ended one two = tt

-- a run that begins at any configuration of a sound run
pub sound-after : (n : ℕ) (choices : List ℕ) (first last : Config) → Sound first → after n choices first ≡ Some last → Sound last
sound-after n choices first last s reached = holds-after Sound (step-sound) (λ c p e now h to. taking-sound c p e (takes-empty c now) h to) n choices first last s reached

pub sound-run : (d : Design) (script : List Command) → SoundDesign d → (n : ℕ) (choices : List ℕ) (last : Config) → after n choices (start d script) ≡ Some last → Sound last
sound-run d script sound n choices last reached = sound-after n choices (start d script) last (start-sound d script sound) reached

module _ (Q : Parts → Type 0) (moves : (p : ℕ) → IsKept p Q) (settles : (p : ℕ) → IsSettled p Q) (between : IsKeptBetween Q) (taken : IsKeptByTakings Q) where
  pub kept-after : (n : ℕ) (choices : List ℕ) (first last : Config) → Sound first → Kept Q first → after n choices first ≡ Some last → Kept Q last
  kept-after n choices first last s h reached =
      (holds-after (λ c. Sound c × Kept Q c)
      (λ c k. both Sound (Kept Q) (step c) (step-sound c k.0) (steps.step-kept Q between c k.0 (λ p rest top. (moves p, settles p)) k.1))
      (λ c p d now k to. let empty = takes-empty c now in (taking-sound c p d empty k.0 to, steps.taking-kept Q between taken c p d empty k.1 to))
      n choices first last (s, h) reached).1
