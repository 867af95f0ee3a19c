-- Every run of a sound design is typed.
use Rattle.std.proofs.Common.{◌≡◌, ℕ, List, Some, refl, sym, subst}
use Rattle.sim_model.specs.FlatDesign.Typed.{EachOf}
use Rattle.sim_model.specs.FlatDesign.Sound.{SoundDesign}
use Rattle.sim_model.specs.FlatDesign.declared.design.Design.{Design}
use Rattle.sim_model.specs.Configuration.{Config, Instance, instance_at, start}
use Rattle.sim_model.specs.Steps.{Outcome, went, faulted, takes, ended, step}
use Rattle.sim_model.specs.Runs.{after}
use Rattle.sim_model.specs.declared.plain.Command.{Command}
use Rattle.laws_runs.proofs.GoalMoves.{Sound}
use Rattle.laws_runs.proofs.GoalSteps.{IfWent, step-sound, taking-sound, start-sound, takes-empty}
use Rattle.laws_runs.proofs.GoalRuns.{holds-after}
use Rattle.laws_runs.specs.TypedConfig.{CommandFits, TypesHaveValues, IsTypedConfig}
use Rattle.laws_runs.proofs.TypedMoves.{Fits}
use Rattle.laws_runs.specs.Terms.{MeetsItsTypes, NextIsTyped}
use Rattle.laws_runs.proofs.InTurn.{fits-typed, meets-types, next-typed}
use Rattle.laws_runs.proofs.TypedStart.{start-fits}
use Rattle.laws_runs.proofs.TypedSteps.{step-fits, taking-fits}

pub record Good (d : Design) (c : Config) : Type 0 where
  pub sound : Sound c
  pub fits : Fits d c

typed_step : (d : Design) → TypesHaveValues d → (c : Config) → (o : Outcome) → IfWent o Sound → IfWent o (Fits d) → IfWent o (Good d)
typed_step d types c (went e) one two = record { sound = one; fits = two }
typed_step d types c (faulted f) one two = tt
typed_step d types c takes one two = tt
typed_step d types c ended one two = tt

own_design : (d : Design) (c : Config) → TypesHaveValues d → Good d c → IfWent (step c) (Fits d)
own_design d c types g = by c.design refl
  where
    by : (e : Design) → c.design ≡ e → IfWent (step c) (Fits d)
    by e is = subst (λ x. IfWent (step c) (Fits x)) g.fits.0 (step-fits c g.sound (subst TypesHaveValues (sym g.fits.0) types) (subst (λ x. Fits x c) (sym g.fits.0) g.fits))

pub typed-after : (d : Design) (script : List Command) → SoundDesign d → TypesHaveValues d → EachOf (CommandFits d) script → (n : ℕ) (choices : List ℕ) (last : Config) → after n choices (start d script) ≡ Some last → Good d last
typed-after d script sound types fits n choices last reached =
    holds-after (Good d) (λ c g. typed_step d types c (step c) (step-sound c g.sound) (own_design d c types g))
    (λ c p e now g to. record { sound = taking-sound c p e (takes-empty c now) g.sound to; fits = taking-fits d types c p e g.fits to })
    n choices (start d script) last (record { sound = start-sound d script sound; fits = start-fits d script sound fits }) reached

pub typed-start : (d : Design) (script : List Command) → SoundDesign d → EachOf (CommandFits d) script → IsTypedConfig (start d script)
typed-start d script sound fits = fits-typed d (start d script) (start-fits d script sound fits)

pub typed-runs : (d : Design) (script : List Command) → SoundDesign d → TypesHaveValues d → EachOf (CommandFits d) script → (n : ℕ) (choices : List ℕ) (last : Config) → after n choices (start d script) ≡ Some last → IsTypedConfig last
typed-runs d script sound types fits n choices last reached = fits-typed d last (typed-after d script sound types fits n choices last reached).fits

pub meets-runs : (d : Design) (script : List Command) → SoundDesign d → TypesHaveValues d → EachOf (CommandFits d) script → (n : ℕ) (choices : List ℕ) (last : Config) → after n choices (start d script) ≡ Some last
    → (p : ℕ) (i : Instance) → instance_at last p ≡ Some i → MeetsItsTypes last p i
meets-runs d script sound types fits n choices last reached p i at =
    let g = typed-after d script sound types fits n choices last reached in
    meets-types last p i at g.sound.0 (subst (λ x. Fits x last) (sym g.fits.0) g.fits)

pub next-runs : (d : Design) (script : List Command) → SoundDesign d → TypesHaveValues d → EachOf (CommandFits d) script → (n : ℕ) (choices : List ℕ) (last : Config) → after n choices (start d script) ≡ Some last
    → (p : ℕ) (i : Instance) → instance_at last p ≡ Some i → NextIsTyped last p i
next-runs d script sound types fits n choices last reached p i at =
    let g = typed-after d script sound types fits n choices last reached in
    next-typed last p i at g.sound.0 (subst (λ x. Fits x last) (sym g.fits.0) g.fits)
