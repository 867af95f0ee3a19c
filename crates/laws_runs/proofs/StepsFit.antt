-- Each step and each taking keeps the processes as they have to be.
use Rattle.std.proofs.Common.{◌≡◌, ◌+◌, ℕ, Bool, true, false, cond, List, [], ◌∷◌, slice_get, Option, Some, None, refl, sym, ap, ◌∙◌, subst, true≢false}
use Rattle.std.proofs.lemmas.Option.{none-some, same_Some}
use Rattle.std.specs.Prelude.{Result, Ok, Err}
use Rattle.sim_model.specs.LogicValues.declared.kinds.Value.{Value}
use Rattle.sim_model.specs.SimTime.declared.moments.Time.{Time}
use Rattle.sim_model.specs.FlatDesign.declared.design.Visible.{Visible}
use Rattle.sim_model.specs.FlatDesign.declared.design.VisibleId.{VisibleId}
use Rattle.sim_model.specs.FlatDesign.declared.design.VisibleId.TheVariants as visible_id
use Rattle.sim_model.specs.FlatDesign.declared.faults.RunFault.{RunFault}
use Rattle.sim_model.specs.Values.{on_ok, time_within}
use Rattle.sim_model.specs.Configuration.{Config, Cycle, Instance, Processes, Told, turn, change_instance, instance_at, with_runnable, with_stack, with_told}
use Rattle.sim_model.specs.Waits.{holds, without}
use Rattle.sim_model.specs.Control.{begins}
use Rattle.sim_model.specs.Steps.{Outcome, went, faulted, takes, ended, as_outcome, shows, sets, sets_visible, first_phase, run_begun, begin_run, carry_out, next_command, step_in, step, turn_line, instance_taken, taken_if, taking}
use Rattle.sim_model.specs.declared.plain.Phase.{Phase}
use Rattle.sim_model.specs.declared.plain.Phase.TheVariants as phase
use Rattle.sim_model.specs.declared.plain.Command.{Command}
use Rattle.sim_model.specs.declared.plain.Command.TheVariants as command
use Rattle.laws_runs.proofs.RunStart.{first_processes}
use Rattle.sim_model.specs.Unwinding.{left_by_raise, left_by_unw}
use Rattle.sim_model.specs.Calls.{with_entry, with_left, runnable_unless}
use Rattle.sim_model.specs.Control.{is_top}
use Rattle.sim_model.specs.Statements.{settled_in}
use Rattle.sim_model.specs.Phases.{initialize_each}
use Rattle.sim_model.specs.declared.plain.Via.{Via}
use Rattle.laws_runs.specs.Moves as move
use Rattle.laws_runs.specs.Moves.{time_moved, IsLater, Moves, StepMoves, in_turn, between, initializing, moving_now}
use Rattle.laws_runs.proofs.MovesKeep.{EachKeeps, moves-keep}
use Rattle.laws_runs.proofs.RunSteps.{step-moves}
use Rattle.laws_runs.proofs.InstancesFit.{AllFit, never, alike-fits}
use Rattle.laws_runs.proofs.PhaseMoves.{initialize-fits, initialize-cycle, UnbegunFrom, first-unbegun}
use Rattle.laws_runs.proofs.MovesFit.{each-fits, top_residual-fits, begins-fits, alone-fits}

-- before the first run begins, all processes are as they were at the start
abbrev pub IsFresh : Config → Type 0
IsFresh c = c.processes ≡ first_processes c.design

abbrev pub FitsPhase : Phase → Bool → Config → Type 0
FitsPhase phase.Idle begun c = begun ≡ false → IsFresh c
FitsPhase phase.Start begun c = (begun ≡ true) × IsFresh c
FitsPhase phase.Evaluate begun c = begun ≡ true
FitsPhase phase.Notify begun c = begun ≡ true
FitsPhase phase.Timed begun c = begun ≡ true

-- what is kept over a run
abbrev pub Good : Config → Type 0
Good c = AllFit c.processes × FitsPhase c.cycle.phase c.cycle.begun c

abbrev pub IfWent : Outcome → (Config → Type 0) → Type 0
IfWent (went d) P = P d
IfWent (faulted f) P = Unit {0}
IfWent takes P = Unit {0}
IfWent ended P = Unit {0}

-- ---- the commands of the script

begun_first : (b : Bool) (c : Config) → (b ≡ false → IsFresh c) → FitsPhase (first_phase b) true c
begun_first false c fresh = (refl, fresh refl)
begun_first true c fresh = refl

run_good : (c : Config) (end : Option ℕ) → AllFit c.processes → (c.cycle.begun ≡ false → IsFresh c) → Good (run_begun c end)
run_good c end fits fresh = (fits, begun_first c.cycle.begun (run_begun c end) fresh)

until_good : (c : Config) (m : Result ℕ RunFault) → AllFit c.processes → (c.cycle.begun ≡ false → IsFresh c) → IfWent (as_outcome (on_ok m (λ end. Ok (run_begun c (Some end))))) Good
until_good c (Ok end) fits fresh = run_good c (Some end) fits fresh
until_good c (Err f) fits fresh = tt

begin_good : (c : Config) (d : Option Time) → AllFit c.processes → (c.cycle.begun ≡ false → IsFresh c) → IfWent (as_outcome (begin_run c d)) Good
begin_good c None fits fresh = run_good c None fits fresh
begin_good c (Some d) fits fresh = until_good c (time_within (c.cycle.now + d.0)) fits fresh

idle_good : (c : Config) → c.cycle.phase ≡ phase.Idle → AllFit c.processes → (c.cycle.begun ≡ false → IsFresh c) → Good c
idle_good c now fits fresh = (fits, subst (λ ph. FitsPhase ph c.cycle.begun c) (sym now) fresh)

shown_good : (c : Config) (v : Option Visible) → c.cycle.phase ≡ phase.Idle → AllFit c.processes → (c.cycle.begun ≡ false → IsFresh c) → Good (shows c v)
shown_good c None now fits fresh = idle_good c now fits fresh
shown_good c (Some v) now fits fresh = idle_good (shows c (Some v)) now fits fresh

set_good : (c : Config) (v : Value) (x : VisibleId) → c.cycle.phase ≡ phase.Idle → AllFit c.processes → (c.cycle.begun ≡ false → IsFresh c) → Good (sets c v x)
set_good c v (visible_id.Signal n) now fits fresh = idle_good (sets c v (visible_id.Signal n)) now fits fresh
set_good c v (visible_id.Resolved n) now fits fresh = idle_good c now fits fresh

set_visible_good : (c : Config) (v : Value) (x : Option Visible) → c.cycle.phase ≡ phase.Idle → AllFit c.processes → (c.cycle.begun ≡ false → IsFresh c) → Good (sets_visible c v x)
set_visible_good c v None now fits fresh = idle_good c now fits fresh
set_visible_good c v (Some x) now fits fresh = set_good c v x.id now fits fresh

command_good : (c : Config) (k : Command) → c.cycle.phase ≡ phase.Idle → AllFit c.processes → (c.cycle.begun ≡ false → IsFresh c) → IfWent (as_outcome (carry_out c k)) Good
command_good c (command.Run d) now fits fresh = begin_good c d fits fresh
command_good c (command.Set i v) now fits fresh = set_visible_good c v (slice_get c.design.visible i) now fits fresh
command_good c (command.Show i) now fits fresh = shown_good c (slice_get c.design.visible i) now fits fresh

script_good : (c : Config) (ks : List Command) → c.cycle.phase ≡ phase.Idle → AllFit c.processes → (c.cycle.begun ≡ false → IsFresh c) → IfWent (next_command c ks) Good
script_good c [] now fits fresh = tt
script_good c (k ∷ ks) now fits fresh = command_good (record c { script = ks }) k now fits fresh

-- ---- a run that has begun, past its start

module _ (L : Phase → Type 0) (later : (ph : Phase) → IsLater ph → L ph) where
  abbrev Begun : Config → Type 0
  Begun c = (c.cycle.begun ≡ true) × L c.cycle.phase

  begun_if : (b : Bool) (c d : Config) → Begun c → Begun d → Begun (cond b c d)
  begun_if true c d one two = one
  begun_if false c d one two = two

  left_begun : (vias : List Via) (c : Config) → Begun c → Begun (with_left c vias)
  left_begun [] c h = h
  left_begun (via ∷ more) c h = left_begun more (with_entry c via.hop _) h

  unless_begun : (b : Bool) (q : ℕ) (c : Config) → Begun c → Begun (runnable_unless b q c)
  unless_begun true q c h = h
  unless_begun false q c h = h

  each_begun : (w : Option ℕ) → EachKeeps w Begun
  each_begun w c (move.throwing p r e) may h = left_begun (left_by_raise r e) _ h
  each_begun w c (move.injecting q i e) may h = left_begun (left_by_raise i.residual e) _ h
  each_begun w c (move.unwinding q i k) may h = left_begun (left_by_unw i.residual) _ (begun_if (is_top c q) _ _ h h)
  each_begun w c (move.spawning p r x y args) may h = unless_begun y.dont_initialize _ _ h
  each_begun w c (move.entering_phase ph) may h = (h.0, later ph may.1)
  each_begun w c (move.beginning_run end) may h = (refl, subst (λ b. L (first_phase b)) (sym h.0) (later phase.Evaluate tt))
  each_begun w c other may h = h

fits_later : (ph : Phase) (b : Bool) (c : Config) → b ≡ true → IsLater ph → FitsPhase ph b c
fits_later phase.Idle b c begun later = λ e. never b e begun
fits_later phase.Start b c begun later = absurd later
fits_later phase.Evaluate b c begun later = begun
fits_later phase.Notify b c begun later = begun
fits_later phase.Timed b c begun later = begun

-- ---- a step by its moves

module _ (c : Config) (fits : AllFit c.processes) (begun : c.cycle.begun ≡ true) where
  -- from a configuration that is at the same phase
  goes : (w : Option ℕ) (d e : Config) → AllFit d.processes → (d.cycle.begun ≡ true) × IsLater d.cycle.phase → Moves w d e → Good e
  goes w d e fit on ms =
      let at = moves-keep w (Begun IsLater (λ ph h. h)) (each_begun IsLater (λ ph h. h) w) d e ms on in
      (moves-keep w (λ (x : Config). AllFit x.processes) (each-fits w) d e ms fit, fits_later e.cycle.phase e.cycle.begun e at.0 at.1)

  moved_good : (d : Config) → (c.cycle.phase ≡ phase.Start → IsFresh c) → StepMoves c d → Good d
  moved_good _ fresh (in_turn p rest i d now top at ms is) = goes (Some p) (settled_in c p i.residual) d (top_residual-fits c p rest top fits _) (begun, subst IsLater (sym now) tt) ms
  moved_good _ fresh (between d later ms) = goes None c d fits (begun, later) ms
  moved_good _ fresh (moving_now t d now apart ms same) = goes None (time_moved c t) d fits (begun, subst IsLater (sym now) tt) ms
  moved_good _ fresh (initializing d e now ms same cycle more after) =
      let from : UnbegunFrom 0 c.design.processes d.processes = subst (λ ps. UnbegunFrom 0 c.design.processes ps) (sym (same ∙ fresh now)) (first-unbegun c.design) in
      let made = initialize_each 0 c.design.processes d in
      let fit = moves-keep None (λ (x : Config). AllFit x.processes) (each-fits None) made e more (initialize-fits 0 c.design.processes d from (subst AllFit (sym same) fits)) in
      let on = moves-keep None (Begun (λ ph. Unit {0}) (λ ph h. tt)) (each_begun (λ ph. Unit {0}) (λ ph h. tt) None) made e more
      (ap (λ (y : Cycle). y.begun) (initialize-cycle 0 c.design.processes d ∙ cycle) ∙ begun, tt) in
      (fit, fits_later e.cycle.phase e.cycle.begun e on.0 (subst IsLater (sym after) tt))

if_went : (o : Outcome) (P : Config → Type 0) → ((d : Config) → o ≡ went d → P d) → IfWent o P
if_went (went d) P h = h d refl
if_went (faulted f) P h = tt
if_went takes P h = tt
if_went ended P h = tt

unless_stopped : (b : Bool) (o : Outcome) → IfWent o Good → IfWent (cond b ended o) Good
unless_stopped true o h = tt
unless_stopped false o h = h

no_start : (ph : Phase) (c : Config) → c.cycle.phase ≡ ph → (ph ≡ phase.Start → ⊥) → c.cycle.phase ≡ phase.Start → IsFresh c
no_start ph c now not is = absurd (not (sym now ∙ is))

phase_good : (c : Config) (ph : Phase) → c.cycle.phase ≡ ph → AllFit c.processes → FitsPhase ph c.cycle.begun c → IfWent (step c) Good
phase_good c phase.Idle now fits h = unless_stopped c.cycle.stopped (step_in c c.cycle.phase) (subst (λ ph. IfWent (step_in c ph) Good) (sym now) (script_good c c.script now fits h))
phase_good c phase.Start now fits h = if_went (step c) Good (λ d to. moved_good c fits h.0 d (λ is. h.1) (step-moves c d to))
phase_good c phase.Evaluate now fits h = if_went (step c) Good (λ d to. moved_good c fits h d (no_start phase.Evaluate c now (λ e. cc)) (step-moves c d to))
phase_good c phase.Notify now fits h = if_went (step c) Good (λ d to. moved_good c fits h d (no_start phase.Notify c now (λ e. cc)) (step-moves c d to))
phase_good c phase.Timed now fits h = if_went (step c) Good (λ d to. moved_good c fits h d (no_start phase.Timed c now (λ e. cc)) (step-moves c d to))

pub step-good : (c : Config) → Good c → IfWent (step c) Good
step-good c h = phase_good c c.cycle.phase refl h.0 h.1

-- ---- a taking

-- where a process is runnable, a run has begun and is past its start
not_fresh : (c : Config) (p : ℕ) → holds c.processes.runnable p ≡ true → IsFresh c → ⊥
not_fresh c p is fresh = true≢false (sym is ∙ ap (λ (ps : Processes). holds ps.runnable p) fresh)

still_phased : (ph : Phase) (b : Bool) (c d : Config) → (IsFresh c → ⊥) → FitsPhase ph b c → FitsPhase ph b d
still_phased phase.Idle b c d not h = λ e. absurd (not (h e))
still_phased phase.Start b c d not h = absurd (not h.1)
still_phased phase.Evaluate b c d not h = h
still_phased phase.Notify b c d not h = h
still_phased phase.Timed b c d not h = h

-- the only one on the stack
abbrev alone : Config → ℕ → Told → Config
alone c p t = with_told (with_stack (with_runnable c (without c.processes.runnable p)) (p ∷ [])) t

untriggered_fits : (c : Config) (p : ℕ) → AllFit c.processes → AllFit (change_instance c p (λ j. record j { trigger = None })).processes
untriggered_fits c p fits = alike-fits c.processes p _ (λ i at. record { wait = refl; deadline = refl; kept = refl; suspended = refl; ended = refl; left = λ e over. over }) fits

begun_fits : (b : Bool) (c : Config) (p : ℕ) (i : Instance) → c.processes.stack ≡ p ∷ [] → AllFit c.processes → AllFit (cond b c (begins (change_instance c p (λ j. record j { trigger = None })) p i)).processes
begun_fits true c p i top fits = fits
begun_fits false c p i top fits = begins-fits (change_instance c p (λ j. record j { trigger = None })) p [] top (untriggered_fits c p fits) _ (λ j. refl) (λ j. refl) (λ j. refl) (λ j. refl) (λ j. refl)

begun_cycle : (b : Bool) (c : Config) (p : ℕ) (i : Instance) → (cond b c (begins (change_instance c p (λ j. record j { trigger = None })) p i)).cycle ≡ c.cycle
begun_cycle true c p i = refl
begun_cycle false c p i = refl

taken_good : (c : Config) (p : ℕ) (o : Option Instance) → instance_at c p ≡ o → holds c.processes.runnable p ≡ true → Good c → Good (instance_taken c p o)
taken_good c p None at is h = h
taken_good c p (Some i) at is h =
    let t = turn (turn_line c.cycle.now i.path p) in
    let d = alone c p t in (
      begun_fits i.started d p i refl (alone-fits c p i at is h.0),
      subst (λ (y : Cycle). FitsPhase y.phase y.begun (instance_taken c p (Some i))) (sym (begun_cycle i.started d p i)) (still_phased c.cycle.phase c.cycle.begun c (instance_taken c p (Some i)) (not_fresh c p is) h.1),
    )

taken_if_good : (c d : Config) (p : ℕ) (b : Bool) → holds c.processes.runnable p ≡ b → Good c → taken_if c p b ≡ Some d → Good d
taken_if_good c d p true is h to = subst Good (same_Some (instance_taken c p (instance_at c p)) d to) (taken_good c p (instance_at c p) refl is h)
taken_if_good c d p false is h to = absurd (none-some d to)

pub taking-good : (c : Config) (p : ℕ) (d : Config) → Good c → taking c p ≡ Some d → Good d
taking-good c p d h to = taken_if_good c d p (holds c.processes.runnable p) refl h to

-- what is taken is runnable
runnable_if : (c d : Config) (p : ℕ) (b : Bool) → holds c.processes.runnable p ≡ b → taken_if c p b ≡ Some d → holds c.processes.runnable p ≡ true
runnable_if c d p true is to = is
runnable_if c d p false is to = absurd (none-some d to)

pub taken-runnable : (c d : Config) (p : ℕ) → taking c p ≡ Some d → holds c.processes.runnable p ≡ true
taken-runnable c d p to = runnable_if c d p (holds c.processes.runnable p) refl to
