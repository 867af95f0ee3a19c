-- Each step and each taking keeps instances as they have to be, in a sound design.
use Rattle.std.proofs.Common.{◌≡◌, ℕ, suc, List, [], ◌∷◌, ◌++◌, slice_get, Option, Some, None, option_map, refl, sym, ap, subst, arith, true≢false}
use Rattle.std.proofs.lemmas.Option.{slice_get-map}
use Rattle.sim_model.specs.FlatDesign.Sound.{SoundDesign}
use Rattle.sim_model.specs.FlatDesign.declared.design.ProcessPart.{ProcessPart}
use Rattle.sim_model.specs.FlatDesign.declared.design.Design.{Design}
use Rattle.sim_model.specs.Residual.{settle}
use Rattle.sim_model.specs.Configuration.{Config, Instance, arena, change_instance, instance_at, with_runnable, first_instance, start}
use Rattle.sim_model.specs.Waits.{freed, without}
use Rattle.sim_model.specs.Statements.{settled_in}
use Rattle.sim_model.specs.Phases.{initialize_each}
use Rattle.sim_model.specs.Steps.{Outcome, went, faulted, takes, ended, step, taking}
use Rattle.sim_model.specs.Clean.{times}
use Rattle.sim_model.specs.declared.plain.Command.{Command}
use Rattle.laws_runs.specs.Moves.{time_moved, turn_taken, StepMoves, in_turn, between, initializing, moving_now, TakingMoves, of_none, of_one}
use Rattle.laws_runs.proofs.MovesKeep.{moves-keep}
use Rattle.laws_runs.proofs.RunSteps.{step-moves, taken-moves}
use Rattle.laws_runs.proofs.RunSteps.{takes-empty as empty-stack}
use Rattle.laws_runs.proofs.BodiesKept.{settle-standing}
use Rattle.laws_runs.proofs.Fine.{FineAt, stack-fine, fine-at}
use Rattle.laws_runs.proofs.GoalMoves.{Sound, sound-if, same-sound, residual-sound, top-active}
use Rattle.laws_runs.proofs.MovesFine.{each-sound}

abbrev pub IfWent : Outcome → (Config → Type 0) → Type 0
IfWent (went d) P = P d
IfWent (faulted f) P = Unit {0}
IfWent takes P = Unit {0}
IfWent ended P = Unit {0}

-- ---- a step, by its moves

initialize_sound : (p : ℕ) (xs : List ProcessPart) (c : Config) → Sound c → Sound (initialize_each p xs c)
initialize_sound p [] c s = s
initialize_sound p (x ∷ xs) c s =
    sound-if x.dont_initialize (initialize_each (suc p) xs c) (initialize_each (suc p) xs (with_runnable (change_instance c p freed) (c.processes.runnable ++ p ∷ [])))
    (initialize_sound (suc p) xs c s)
    (initialize_sound (suc p) xs (with_runnable (change_instance c p freed) (c.processes.runnable ++ p ∷ [])) (same-sound c p freed (λ i. record { home = refl; code = refl; residual = refl }) s))

module _ (c : Config) (s : Sound c) where
  pub settled-sound : (p : ℕ) (rest : List ℕ) (i : Instance) → c.processes.stack ≡ p ∷ rest → instance_at c p ≡ Some i → Sound (settled_in c p i.residual)
  settled-sound p rest i top at =
      residual-sound c p i (settle (arena c) i.residual) at (settle-standing c.design i.home i.residual (fine-at c.design c.processes p i at s.1).standing) (λ g. top-active c p rest top) s

  moved_sound : (d : Config) → StepMoves c d → Sound d
  moved_sound _ (in_turn p rest i d now top at ms is) = moves-keep (Some p) Sound (each-sound (Some p)) (settled_in c p i.residual) d ms (settled-sound p rest i top at)
  moved_sound _ (between d later ms) = moves-keep None Sound (each-sound None) c d ms s
  moved_sound _ (initializing d e now ms same cycle more after) =
      moves-keep None Sound (each-sound None) (initialize_each 0 c.design.processes d) e more (initialize_sound 0 c.design.processes d (moves-keep None Sound (each-sound None) c d ms s))
  moved_sound _ (moving_now t d now apart ms same) = moves-keep None Sound (each-sound None) (time_moved c t) d ms s

  taken_sound : (p : ℕ) (d : Config) → TakingMoves c p d → Sound d
  taken_sound p _ of_none = s
  taken_sound p _ (of_one i d empty at is ms) =
      moves-keep (Some p) Sound (each-sound (Some p)) (turn_taken c p) d ms
      (s.0, stack-fine c.design c.processes (without c.processes.runnable p) (p ∷ []) (λ q n. let none = ap (times q) empty in absurd (omega (arith, n, none))) s.1)

if_went : (o : Outcome) (P : Config → Type 0) → ((d : Config) → o ≡ went d → P d) → IfWent o P
if_went (went d) P h = h d refl
if_went (faulted f) P h = tt
if_went takes P h = tt
if_went ended P h = tt

-- what is so wherever a step goes
pub goes-to : (c : Config) (P : Config → Type 0) → ((d : Config) → StepMoves c d → P d) → IfWent (step c) P
goes-to c P each = if_went (step c) P (λ d to. each d (step-moves c d to))

pub step-sound : (c : Config) → Sound c → IfWent (step c) Sound
step-sound c s = goes-to c Sound (moved_sound c s)

pub taking-sound : (c : Config) (p : ℕ) (d : Config) → c.processes.stack ≡ [] → Sound c → taking c p ≡ Some d → Sound d
taking-sound c p d empty s to = taken_sound c s p d (taken-moves c d p empty to)

-- ---- the start

first_fine : (d : Design) → SoundDesign d → (p : ℕ) (o : Option ProcessPart) → slice_get d.processes p ≡ o → FineAt d (option_map (first_instance d) o) 0
first_fine d sound p None at = tt
first_fine d sound p (Some x) at =
    let fits = sound.processes p x at in
    record { body = fits.body; found = fits.found; home_of = fits.home; standing = tt; active = λ g. absurd (true≢false (sym g)) }

pub start-sound : (d : Design) (script : List Command) → SoundDesign d → Sound (start d script)
start-sound d script sound =
    (sound, λ p. subst (λ o. FineAt d o 0) (sym (slice_get-map (first_instance d) d.processes p)) (first_fine d sound p (slice_get d.processes p) refl))

pub takes-empty : (c : Config) → step c ≡ takes → c.processes.stack ≡ []
takes-empty c h = empty-stack c h
