-- In a run the number of events stays, and a semaphore is more than it was at first by one a step at most.
use Rattle.std.proofs.Common.{◌≡◌, ◌≤◌, ◌+◌, ℕ, zero, suc, Bool, true, false, List, [], ◌∷◌, ◌++◌, length, map, Option, Some, None, All, refl, sym, ap, ◌∙◌, subst, arith}
use Rattle.std.specs.Prelude.{Ok}
use Rattle.std.proofs.lemmas.Option.{none-some, same_Some}
use Rattle.std.proofs.lemmas.List.{length-replicate}
use Rattle.std.proofs.lemmas.List.Elements.{All-weaker, All-map}
use Rattle.laws_runs.specs.EventCore.declared.notifications.Pending.TheVariants as pending
use Rattle.flat_design.specs.declared.design.SemaphorePart.{SemaphorePart}
use Rattle.flat_design.specs.declared.design.ProcessPart.{ProcessPart}
use Rattle.flat_design.specs.declared.design.Design.{Design}
use Rattle.laws_runs.specs.SimModel.Configuration.{Config, Channels, Instance, turn, change_instance, instance_at, with_runnable, with_stack, with_told, start}
use Rattle.laws_runs.specs.SimModel.Waits.{holds, without, freed}
use Rattle.laws_runs.specs.SimModel.Control.{begins}
use Rattle.laws_runs.specs.SimModel.Statements.{statement_step}
use Rattle.laws_runs.specs.SimModel.Phases.{without_pending, initialize_each, is_at, is_delta}
use Rattle.laws_runs.specs.SimModel.Steps.{Outcome, went, faulted, takes, ended, step, turn_line, instance_taken, taken_if, taking}
use Rattle.laws_runs.specs.SimModel.Runs.{after, and_then, took}
use Rattle.laws_runs.specs.SimModel.declared.plain.Command.{Command}
use Rattle.laws_reached.proofs.Counted.{Near, NearIfOk, stays, either, notify_near, step-near}
use Rattle.laws_runs.specs.Moves as move
use Rattle.laws_runs.specs.Moves.{time_moved, Moves, StepMoves, in_turn, between, initializing, moving_now}
use Rattle.laws_runs.proofs.MovesKeep.{EachKeeps, moves-keep}
use Rattle.laws_runs.proofs.RunSteps.{step-moves}

abbrev NearIfWent : Config → Outcome → Type 0
NearIfWent c (went d) = Near c d
NearIfWent c (faulted f) = Unit {0}
NearIfWent c takes = Unit {0}
NearIfWent c ended = Unit {0}

map_length : {A B : Type 0} (f : A → B) (xs : List A) → length (map f xs) ≡ length xs
map_length f [] = refl
map_length f (x ∷ xs) = ap suc (map_length f xs)

module _ (c : Config) where
  initialize_near : (p : ℕ) (xs : List ProcessPart) (d : Config) → Near c d → Near c (initialize_each p xs d)
  initialize_near p [] d k = k
  initialize_near p (x ∷ xs) d k =
      either c (initialize_each (suc p) xs d) (initialize_each (suc p) xs (with_runnable (change_instance d p freed) (d.processes.runnable ++ p ∷ []))) x.dont_initialize
      (initialize_near (suc p) xs d k) (initialize_near (suc p) xs (with_runnable (change_instance d p freed) (d.processes.runnable ++ p ∷ [])) k)

  -- between turns no semaphore is more than it was
  nobody : {A : Type 0} (p : ℕ) → None ≡ Some p → A
  nobody p e = absurd (none-some p e)

  each_near : EachKeeps None (Near c)
  each_near d (move.spawning p r h x args) (n, t, is) k = nobody p t.turn.is_turn
  each_near d (move.throwing p r e) (t, i, at, is, caught, how) k = nobody p t.is_turn
  each_near d (move.injecting q i e) (p, t, live, off, below, caught) k = nobody p t.is_turn
  each_near d (move.unwinding q i g) (p, t, live, below, none, outer) k = nobody p t.is_turn
  each_near d (move.notifying e w) may k = notify_near c d e w k
  each_near d (move.cancelling e) (p, own) k = nobody p own
  each_near d move.falling_due may k = (map_length (without_pending is_delta) d.events ∙ k.0, k.1)
  each_near d (move.falling_due_at t) may k = (map_length (without_pending (is_at t)) d.events ∙ k.0, k.1)
  each_near d (move.taking_semaphore n v) (own, at) k = nobody own.0 own.1
  each_near d (move.posting n v) (own, at) k = nobody own.0 own.1
  each_near d (move.updating x) (none, same) k = (k.0, λ most few. subst (λ (y : Channels). All (λ v. v ≤ most + 1) y.semaphores) same (k.1 most few))
  each_near d other may k = k

  moves_near : (d e : Config) → Moves None d e → Near c d → Near c e
  moves_near d e ms k = moves-keep None (Near c) each_near d e ms k

  -- in a turn by the form of the statement
  turn_near : (p : ℕ) (d : Config) → statement_step c p ≡ Ok d → Near c d
  turn_near p d is = subst (NearIfOk c) is (step-near c p)

  step_moves_near : (d : Config) → StepMoves c d → Near c d
  step_moves_near _ (in_turn p rest i d now top at ms is) = turn_near p d is
  step_moves_near _ (between d later ms) = moves_near c d ms (stays c)
  step_moves_near _ (initializing d e now ms same cycle more after) = moves_near (initialize_each 0 c.design.processes d) e more (initialize_near 0 c.design.processes d (moves_near c d ms (stays c)))
  step_moves_near _ (moving_now t d now apart ms same) = moves_near (time_moved c t) d ms (stays c)

  went_near : (o : Outcome) → ((d : Config) → o ≡ went d → Near c d) → NearIfWent c o
  went_near (went d) each = each d refl
  went_near (faulted f) each = tt
  went_near takes each = tt
  went_near ended each = tt

run_step_near : (c : Config) → NearIfWent c (step c)
run_step_near c = went_near c (step c) (λ d to. step_moves_near c d (step-moves c d to))

-- ---- takings

taken_near : (c : Config) (p : ℕ) (o : Option Instance) → Near c (instance_taken c p o)
taken_near c p None = stays c
taken_near c p (Some i) =
    let d = with_told (with_stack (with_runnable c (without c.processes.runnable p)) (p ∷ [])) (turn (turn_line c.cycle.now i.path p)) in
    either c d (begins (change_instance d p (λ j. record j { trigger = None })) p i) i.started (stays c) (stays c)

taken_if_near : (c d : Config) (p : ℕ) (b : Bool) → taken_if c p b ≡ Some d → Near c d
taken_if_near c d p true to = subst (Near c) (same_Some (instance_taken c p (instance_at c p)) d to) (taken_near c p (instance_at c p))
taken_if_near c d p false to = absurd (none-some d to)

-- ---- runs

-- so many steps later
record Later (n : ℕ) (c d : Config) : Type 0 where
  events : length d.events ≡ length c.events
  semaphores : (most : ℕ) → All (λ v. v ≤ most) c.channels.semaphores → All (λ v. v ≤ most + n) d.channels.semaphores

later : (n : ℕ) (c d e : Config) → Near c d → Later n d e → Later (suc n) c e
later n c d e k more = record {
  events = more.events ∙ k.0;
  semaphores = λ most few. All-weaker (λ v. v ≤ (most + 1) + n) (λ v. v ≤ most + suc n) (λ v h. omega (arith, h)) e.channels.semaphores (more.semaphores (most + 1) (k.1 most few));
}

later_taken : (n : ℕ) (c last : Config) (p : ℕ) (o : Option Config) (on : Config → Option Config) → taking c p ≡ o → ((d : Config) → on d ≡ Some last → Later n d last) → took o on ≡ Some last → Later (suc n) c last
later_taken n c last p None on to more reached = absurd (none-some last reached)
later_taken n c last p (Some d) on to more reached = later n c d last (taken_if_near c d p (holds c.processes.runnable p) to) (more d reached)

later_step : (n : ℕ) (c last : Config) (choices : List ℕ) (o : Outcome) (on : List ℕ → Config → Option Config) → NearIfWent c o → ((left : List ℕ) (d : Config) → on left d ≡ Some last → Later n d last) → and_then o c choices on ≡ Some last
    → Later (suc n) c last
later_step n c last choices (went d) on k more reached = later n c d last k (more choices d reached)
later_step n c last choices (faulted f) on k more reached = absurd (none-some last reached)
later_step n c last [] takes on k more reached = absurd (none-some last reached)
later_step n c last (p ∷ choices) takes on k more reached = later_taken n c last p (taking c p) (on choices) refl (more choices) reached
later_step n c last choices ended on k more reached = absurd (none-some last reached)

run_later : (n : ℕ) (choices : List ℕ) (first last : Config) → after n choices first ≡ Some last → Later n first last
run_later zero [] first last reached = record {
  events = ap (λ (d : Config). length d.events) (sym (same_Some first last reached));
  semaphores = λ most few. subst (λ (d : Config). All (λ v. v ≤ most + 0) d.channels.semaphores) (same_Some first last reached) (All-weaker (λ v. v ≤ most) (λ v. v ≤ most + 0) (λ v h. omega (arith, h)) first.channels.semaphores few);
}
run_later zero (p ∷ choices) first last reached = absurd (none-some last reached)
run_later (suc n) choices first last reached = later_step n first last choices (step first) (after n) (run_step_near first) (λ left d. run_later n left d last) reached

module _ (d : Design) (script : List Command) (n : ℕ) (choices : List ℕ) (last : Config) (reached : after n choices (start d script) ≡ Some last) where
  pub events-after : length last.events ≡ d.events
  events-after = (run_later n choices (start d script) last reached).events ∙ length-replicate d.events pending.Nothing

  pub semaphores-after : (most : ℕ) → All (λ (p : SemaphorePart). p.start ≤ most) d.semaphores → All (λ v. v ≤ most + n) last.channels.semaphores
  semaphores-after most few = (run_later n choices (start d script) last reached).semaphores most (All-map (λ v. v ≤ most) (λ (p : SemaphorePart). p.start) d.semaphores few)
