-- A run goes on by a step or a taking; and its design is the one that it began with.
use Rattle.std.proofs.Common.{◌≡◌, ◌+◌, ◌++◌, ℕ, List, [], ◌∷◌, Some, refl, sym, ap, ◌∙◌}
use Rattle.flat_design.specs.Sound.{SoundDesign}
use Rattle.flat_design.specs.declared.design.Design.{Design}
use Rattle.laws_runs.specs.SimModel.Configuration.{Config, arena, start}
use Rattle.laws_runs.specs.SimModel.Clean.{CleanProcesses}
use Rattle.laws_runs.specs.SimModel.Steps.{went, takes, step, taking}
use Rattle.laws_runs.specs.SimModel.Runs.{after, and_then, took}
use Rattle.laws_runs.specs.SimModel.declared.plain.Command.{Command}
use Rattle.laws_runs.proofs.Splits.{joined}
use Rattle.laws_runs.proofs.CleanRuns.{good-after, clean-after}
use Rattle.laws_runs.proofs.StepsFit.{Good}
use Rattle.laws_runs.specs.Goals.{CleanGoals}
use Rattle.laws_runs.proofs.GoalMoves.{Sound}
use Rattle.laws_runs.proofs.GoalSteps.{start-sound}
use Rattle.laws_runs.proofs.GoalRuns.{goals-after}
use Rattle.laws_runs.proofs.GoalParts.{IsKept, IsKeptBetween, IsKeptByTakings}
use Rattle.laws_runs.proofs.KeptRuns.{sound-run, kept-after}
use Rattle.laws_reached.specs.Reached.{IsReached, GoesOn}

-- ---- from one configuration to the next

abbrev pub reached-start : (design : Design) (script : List Command) → SoundDesign design → IsReached (start design script)
reached-start design script sound = record { design = design; script = script; steps = 0; choices = []; sound = sound; is_run = refl }

abbrev pub reached-step : (c d : Config) → IsReached c → step c ≡ went d → IsReached d
reached-step c d r to = record {
  design = r.design;
  script = r.script;
  steps = r.steps + 1;
  choices = r.choices ++ [];
  sound = r.sound;
  is_run = joined r.steps 1 r.choices [] (start r.design r.script) c r.is_run ∙ ap (λ o. and_then o c [] (after 0)) to;
}

abbrev pub reached-taking : (c d : Config) (p : ℕ) → IsReached c → step c ≡ takes → taking c p ≡ Some d → IsReached d
reached-taking c d p r now to = record {
  design = r.design;
  script = r.script;
  steps = r.steps + 1;
  choices = r.choices ++ p ∷ [];
  sound = r.sound;
  is_run = joined r.steps 1 r.choices (p ∷ []) (start r.design r.script) c r.is_run ∙ ap (λ o. and_then o c (p ∷ []) (after 0)) now ∙ ap (λ t. took t (after 0 [])) to;
}

pub step-goes_on : (c d : Config) (r : IsReached c) → step c ≡ went d → GoesOn c d r []
step-goes_on c d r to = record { next = reached-step c d r to; design = refl; script = refl; steps = refl; choices = refl }

pub taking-goes_on : (c d : Config) (p : ℕ) (r : IsReached c) → step c ≡ takes → taking c p ≡ Some d → GoesOn c d r (p ∷ [])
taking-goes_on c d p r now to = record { next = reached-taking c d p r now to; design = refl; script = refl; steps = refl; choices = refl }

-- ---- the design stays

module _ (d : Design) where
  kept_moves : (p : ℕ) → IsKept p (λ x. x.design ≡ d)
  kept_moves p = record {
    same = λ x q f alike h. h;
    leaves = λ x rest top none h. h;
    pushes = λ x q rest top none h. h;
    passes = λ x i r at may h. h;
    puts = λ x i r n at next new plain h. h;
    takes_off = λ x i r at h. h;
    guards = λ x i r n at next b u h. h;
    returns = λ x i r n at next v h. h;
    locals = λ x n v h. h;
    raises = λ x q i r e k there left stands none caught inner h. h;
    unwinds = λ x q i k there stands none outer h. h;
    over = λ x i r at done f left ended h. h;
    begins = λ x q i f args there unbegun h. h;
    spawned = λ x new left unbegun lives h. h;
    tries_hop = λ x s hop t e blocking entry unbroken h. h;
    calls_hop = λ x i r n at next via f args e hop entry unbroken h. h;
    returns_hop = λ x i r y at next via e by entry unbroken h. h;
  }

  kept_between : IsKeptBetween (λ x. x.design ≡ d)
  kept_between = record { same = λ x q f alike h. h; alike = λ x f alike h. h }

  kept_by_takings : IsKeptByTakings (λ x. x.design ≡ d)
  kept_by_takings = record { taken = λ x p empty h. h; begins = λ x q i f args there unbegun h. h }

module _ (c : Config) (r : IsReached c) where
  pub design-is : c.design ≡ r.design
  design-is =
      kept-after (λ x. x.design ≡ r.design) (kept_moves r.design) (λ p x i at h. h) (kept_between r.design) (kept_by_takings r.design) r.steps r.choices
      (start r.design r.script) c (start-sound r.design r.script r.sound) refl r.is_run

  -- ---- what other laws say of each configuration of a run

  pub sound-reached : Sound c
  sound-reached = sound-run r.design r.script r.sound r.steps r.choices c r.is_run

  pub design-sound : SoundDesign c.design
  design-sound = sound-reached.0

  pub good-reached : Good c
  good-reached = good-after r.design r.script r.steps r.choices c r.is_run

  pub clean-reached : CleanProcesses c.processes
  clean-reached = clean-after r.design r.script r.steps r.choices c r.is_run

  pub goals-reached : CleanGoals (arena c) c.processes
  goals-reached = goals-after r.design r.script r.sound r.steps r.choices c r.is_run

-- ---- from one configuration to the next the design is the same

pub step-design : (c d : Config) → IsReached c → step c ≡ went d → d.design ≡ c.design
step-design c d r to = design-is d (reached-step c d r to) ∙ sym (design-is c r)

pub taking-design : (c d : Config) (p : ℕ) → IsReached c → step c ≡ takes → taking c p ≡ Some d → d.design ≡ c.design
taking-design c d p r now to = design-is d (reached-taking c d p r now to) ∙ sym (design-is c r)
