-- Each step and each taking is made of moves.
use Rattle.std.proofs.Common.{sym, ◌≡◌, ◌+◌, ◌==◌, ℕ, Bool, true, false, cond, List, [], ◌∷◌, slice_get, Option, Some, None, refl, ap, subst}
use Rattle.std.specs.Prelude.{Result, Ok, Err, unwrap_or}
use Rattle.std.specs.Result.{IfOk}
use Rattle.std.proofs.lemmas.Option.{none-some, same_Some}
use Rattle.sim_model.specs.LogicValues.declared.kinds.Value.{Value}
use Rattle.sim_model.specs.SimTime.declared.moments.Time.{Time}
use Rattle.sim_model.specs.EventCore.declared.notifications.Pending.{Pending}
use Rattle.sim_model.specs.EventCore.declared.notifications.When.TheVariants as when
use Rattle.sim_model.specs.SignalChannel.Drivers.{Driven}
use Rattle.sim_model.specs.SignalChannel.declared.signal.Signal.{Signal}
use Rattle.sim_model.specs.SignalChannel.declared.signal.Changed.{Changed}
use Rattle.sim_model.specs.FifoSync.Fifos.{Queued}
use Rattle.sim_model.specs.FlatDesign.declared.design.SignalPart.{SignalPart}
use Rattle.sim_model.specs.FlatDesign.declared.design.ResolvedPart.{ResolvedPart}
use Rattle.sim_model.specs.FlatDesign.declared.design.FifoPart.{FifoPart}
use Rattle.sim_model.specs.FlatDesign.declared.design.Visible.{Visible}
use Rattle.sim_model.specs.FlatDesign.declared.design.VisibleId.{VisibleId}
use Rattle.sim_model.specs.FlatDesign.declared.design.VisibleId.TheVariants as visible_id
use Rattle.sim_model.specs.FlatDesign.declared.faults.RunFault.{RunFault}
use Rattle.sim_model.specs.Values.{on_ok, time_within}
use Rattle.sim_model.specs.Configuration.{Config, arena, Instance, Deadline, turn, line, path_of, change_instance, instance_at, with_phase, with_told}
use Rattle.sim_model.specs.Waits.{holds, fire_all, notify}
use Rattle.sim_model.specs.Control.{begins}
use Rattle.sim_model.specs.Residual.{settle}
use Rattle.sim_model.specs.Statements.{settled_in, step_of, step_by, statement_step}
use Rattle.sim_model.specs.Phases.{was_some, notified_if, announced, announce_signals, announce_resolved, announce_fifos, update_phase, session_stopped, update_step, delta_step, delta_phase, initialization, phase_after, phase_at, due_events, due_instances, fire_due, initialize_each, now_becomes, run_over, timed_at, is_past, is_end, is_at, is_due_at, is_delta, is_zero_timeout, earliest, visible_value}
use Rattle.sim_model.specs.Steps.{Outcome, went, faulted, takes, ended, as_outcome, show_line, shows, sets, sets_visible, run_begun, begin_run, carry_out, next_command, evaluate, step_in, step, turn_line, instance_taken, taken_if, taking}
use Rattle.sim_model.specs.declared.plain.Phase.{Phase}
use Rattle.sim_model.specs.declared.plain.Phase.TheVariants as phase
use Rattle.sim_model.specs.declared.plain.Command.{Command}
use Rattle.sim_model.specs.declared.plain.Command.TheVariants as command
use Rattle.laws_runs.specs.Moves as move
use Rattle.laws_runs.specs.Moves.{without_due, time_moved, IsLater, Moves, then, StepMoves, in_turn, between, initializing, moving_now, turn_taken, TakingMoves, of_none, of_one}
use Rattle.laws_runs.proofs.MoveLists.{change-at}
use Rattle.laws_runs.proofs.WakeMoves.{WakesKeep, fire_all-keeps, wake_all-keeps, moves-wakes}
use Rattle.laws_runs.proofs.Values.{either-moves}
use Rattle.laws_runs.proofs.StatementMoves.{turn-moves}

abbrev pub IfWent : Outcome → (Config → Type 0) → Type 0
IfWent (went d) P = P d
IfWent (faulted f) P = Unit {0}
IfWent takes P = Unit {0}
IfWent ended P = Unit {0}

-- ---- the update phase: moves that change the pending notifications alone, and then all channels

record Announced (c d : Config) : Type 0 where
  moves : Moves None c d
  same : d ≡ record c { events = d.events }

notified_moves : (c : Config) (b : Bool) (e : ℕ) (d : Config) → Announced c d → Announced c (notified_if b e d)
notified_moves c true e d a = record { moves = then d (move.notifying e when.Delta) a.moves tt; same = ap (λ (x : Config). record x { events = (notify d e when.Delta).events }) a.same }
notified_moves c false e d a = a

announced_moves : (c : Config) (x : Changed) (events : ℕ) (d : Config) → Announced c d → Announced c (announced x events d)
announced_moves c x events d a = notified_moves c x.neg _ _ (notified_moves c x.pos _ _ (notified_moves c x.changed _ d a))

signals_moves : (c : Config) (ps : List SignalPart) (ss : List Signal) (d : Config) → Announced c d → Announced c (announce_signals ps ss d)
signals_moves c [] ss d a = a
signals_moves c (p ∷ ps) [] d a = a
signals_moves c (p ∷ ps) (s ∷ ss) d a = signals_moves c ps ss _ (announced_moves c _ p.events d a)

resolved_moves : (c : Config) (ps : List ResolvedPart) (rs : List Driven) (bs : List Bool) (d : Config) → Announced c d → Announced c (announce_resolved ps rs bs d)
resolved_moves c [] rs bs d a = a
resolved_moves c (p ∷ ps) [] bs d a = a
resolved_moves c (p ∷ ps) (r ∷ rs) [] d a = a
resolved_moves c (p ∷ ps) (r ∷ rs) (b ∷ bs) d a = resolved_moves c ps rs bs _ (announced_moves c _ p.events d a)

fifos_moves : (c : Config) (ps : List FifoPart) (qs : List Queued) (d : Config) → Announced c d → Announced c (announce_fifos ps qs d)
fifos_moves c [] qs d a = a
fifos_moves c (p ∷ ps) [] d a = a
fifos_moves c (p ∷ ps) (q ∷ qs) d a = fifos_moves c ps qs _ (notified_moves c (was_some q.read) _ _ (notified_moves c (was_some q.written) _ d a))

all_announced : (c : Config) → Announced c (announce_fifos c.design.fifos c.channels.fifos (announce_resolved c.design.resolved c.channels.resolved c.channels.resolved_asked (announce_signals c.design.signals c.channels.signals c)))
all_announced c =
    fifos_moves c c.design.fifos c.channels.fifos _ (resolved_moves c c.design.resolved c.channels.resolved c.channels.resolved_asked _ (signals_moves c c.design.signals c.channels.signals c (record { moves = move.none; same = refl })))

update_moves : (c : Config) → Moves None c (update_phase c)
update_moves c =
    let d = announce_fifos c.design.fifos c.channels.fifos (announce_resolved c.design.resolved c.channels.resolved c.channels.resolved_asked (announce_signals c.design.signals c.channels.signals c)) in
    let a = all_announced c in
    then d (move.updating c.channels) a.moves (refl, ap (λ (x : Config). x.channels) a.same)

update_step_moves : (c : Config) → Moves None c (update_step c)
update_step_moves c =
    either-moves None c c.cycle.stop_asked (session_stopped (update_phase c)) (with_phase (update_phase c) phase.Notify)
    (then (update_phase c) move.stopping (update_moves c) refl) (then (update_phase c) (move.entering_phase phase.Notify) (update_moves c) (refl, tt))

-- ---- what is due, and now

due_keeps : (Q : Config → Type 0) → WakesKeep Q → (test : Pending → Bool) (time : Deadline → Bool) (c : Config) → Q (without_due test time c) → Q (fire_due test time c)
due_keeps Q k test time c h =
    wake_all-keeps Q k (due_instances time 0 c.processes.instances) (fire_all (due_events test 0 c.events) (without_due test time c)) (fire_all-keeps Q k (due_events test 0 c.events) (without_due test time c) h)

delta_moves : (c : Config) → Moves None c (delta_phase c)
delta_moves c = due_keeps (Moves None c) (moves-wakes None c) is_delta is_zero_timeout c (then c move.falling_due move.none refl)

-- moves of nobody, by which no channel changes
abbrev Still : Config → Config → Type 0
Still c d = Moves None c d × (d.channels ≡ c.channels)

still_wakes : (c : Config) → WakesKeep (Still c)
still_wakes c = let k = moves-wakes None c in record {
  joins = λ d p i may is h. (k.joins d p i may is h.0, h.1);
  keeps = λ d p i may is h. (k.keeps d p i may is h.0, h.1);
  strikes = λ d p es i all at is h. (k.strikes d p es i all at is h.0, h.1);
}

fired_still : (t : ℕ) (c : Config) → Still c (fire_due (is_at t) (is_due_at t) c)
fired_still t c = due_keeps (Still c) (still_wakes c) (is_at t) (is_due_at t) c (then c (move.falling_due_at t) move.none refl, refl)

later_after : (ps : List ℕ) → IsLater (phase_after ps)
later_after [] = tt
later_after (p ∷ ps) = tt

later_if : (b : Bool) (ph : Phase) → IsLater ph → IsLater (cond b phase.Idle ph)
later_if true ph h = tt
later_if false ph h = h

later_at : (t : ℕ) (end : Option ℕ) (ps : List ℕ) → IsLater (phase_at t end ps)
later_at t end ps = later_if (is_end t end) (phase_after ps) (later_after ps)

phased_still : (c d : Config) (ph : Phase) → IsLater ph → Still c d → Still c (with_phase d ph)
phased_still c d ph later s = (then d (move.entering_phase ph) s.0 (refl, later), s.1)

-- behind now, which moves or stays
behind_now : (c : Config) (t : ℕ) (f : Config → Config) → c.cycle.phase ≡ phase.Timed → ((x : Config) → Still x (f x)) → (b : Bool) → (t == c.cycle.now) ≡ b → StepMoves c (f (cond b c (time_moved c t)))
behind_now c t f now each true is = between (f c) (subst IsLater (sym now) tt) (each c).0
behind_now c t f now each false is = let s = each (time_moved c t) in moving_now t (f (time_moved c t)) now is s.0 s.1

over_moves : (c : Config) → c.cycle.phase ≡ phase.Timed → StepMoves c (run_over c)
over_moves c now = behind_now c (unwrap_or c.cycle.end c.cycle.now) (λ x. with_phase x phase.Idle) now (λ x. phased_still x x phase.Idle tt (move.none, refl)) (unwrap_or c.cycle.end c.cycle.now == c.cycle.now) refl

abbrev timed_to : Config → ℕ → Config → Config
timed_to c t x = let d = fire_due (is_at t) (is_due_at t) x in with_phase d (phase_at t c.cycle.end d.processes.runnable)

fired_moves : (c : Config) (t : ℕ) → c.cycle.phase ≡ phase.Timed → StepMoves c (timed_to c t (now_becomes c t))
fired_moves c t now = behind_now c t (timed_to c t) now (λ x. phased_still x (fire_due (is_at t) (is_due_at t) x) _ (later_at t c.cycle.end (fire_due (is_at t) (is_due_at t) x).processes.runnable) (fired_still t x)) (t == c.cycle.now) refl

step_if : (c : Config) (b : Bool) (d e : Config) → StepMoves c d → StepMoves c e → StepMoves c (cond b d e)
step_if c true d e one two = one
step_if c false d e one two = two

timed_moves : (c : Config) (t : Option ℕ) → c.cycle.phase ≡ phase.Timed → StepMoves c (timed_at c t)
timed_moves c None now = over_moves c now
timed_moves c (Some t) now = step_if c (is_past t c.cycle.end) (run_over c) (timed_to c t (now_becomes c t)) (over_moves c now) (fired_moves c t now)

-- ---- commands

module _ (o : Config) where
  until_moves : (c : Config) (m : Result ℕ RunFault) → Moves None o c → IfOk (on_ok m (λ end. Ok (run_begun c (Some end)))) (Moves None o)
  until_moves c (Ok end) s = then c (move.beginning_run (Some end)) s refl
  until_moves c (Err f) s = tt

  begin_moves : (c : Config) (d : Option Time) → Moves None o c → IfOk (begin_run c d) (Moves None o)
  begin_moves c None s = then c (move.beginning_run None) s refl
  begin_moves c (Some d) s = until_moves c (time_within (c.cycle.now + d.0)) s

  shown_moves : (c : Config) (v : Option Visible) → Moves None o c → Moves None o (shows c v)
  shown_moves c None s = s
  shown_moves c (Some v) s = then c (move.telling (line (show_line c.cycle.now (path_of c.design v.object) (visible_value c v.id)))) s tt

  set_moves : (c : Config) (v : Value) (x : VisibleId) → Moves None o c → Moves None o (sets c v x)
  set_moves c v (visible_id.Signal n) s = then c (move.setting_signal n v) s refl
  set_moves c v (visible_id.Resolved n) s = s

  set_visible_moves : (c : Config) (v : Value) (x : Option Visible) → Moves None o c → Moves None o (sets_visible c v x)
  set_visible_moves c v None s = s
  set_visible_moves c v (Some x) s = set_moves c v x.id s

  command_moves : (c : Config) (k : Command) → Moves None o c → IfOk (carry_out c k) (Moves None o)
  command_moves c (command.Run d) s = begin_moves c d s
  command_moves c (command.Set i v) s = set_visible_moves c v (slice_get c.design.visible i) s
  command_moves c (command.Show i) s = shown_moves c (slice_get c.design.visible i) s

-- ---- steps

-- an answer that goes to a step
ok_to : (c : Config) (w : Option ℕ) (to : (d : Config) → Moves w c d → StepMoves c d) (m : Result Config RunFault) → IfOk m (Moves w c) → IfOk m (StepMoves c)
ok_to c w to (Ok d) s = to d s
ok_to c w to (Err f) s = tt

went_moves : (c : Config) (m : Result Config RunFault) → IfOk m (StepMoves c) → IfWent (as_outcome m) (StepMoves c)
went_moves c (Ok d) s = s
went_moves c (Err f) s = tt

script_moves : (c : Config) (ks : List Command) → c.cycle.phase ≡ phase.Idle → IfWent (next_command c ks) (StepMoves c)
script_moves c [] now = tt
script_moves c (k ∷ ks) now = went_moves c (carry_out (record c { script = ks }) k) (ok_to c None (λ d ms. between d (subst IsLater (sym now) tt) ms) (carry_out (record c { script = ks }) k) (command_moves c (record c { script = ks }) k (then c (move.reading_on ks) move.none refl)))

turn_to : (c : Config) (p : ℕ) (rest : List ℕ) (i : Instance) → c.cycle.phase ≡ phase.Evaluate → c.processes.stack ≡ p ∷ rest → instance_at c p ≡ Some i
    → (m : Result Config RunFault) → statement_step c p ≡ m → IfOk m (Moves (Some p) (settled_in c p i.residual)) → IfOk m (StepMoves c)
turn_to c p rest i now top at (Ok d) is s = in_turn p rest i d now top at s is
turn_to c p rest i now top at (Err f) is s = tt

turn_moves : (c : Config) (p : ℕ) (rest : List ℕ) → c.cycle.phase ≡ phase.Evaluate → c.processes.stack ≡ p ∷ rest → (x : Option Instance) → instance_at c p ≡ x → IfOk (step_by c p x) (StepMoves c)
turn_moves c p rest now top None at = between c (subst IsLater (sym now) tt) move.none
turn_moves c p rest now top (Some i) at =
    turn_to c p rest i now top at (step_of (settled_in c p i.residual) p i (settle (arena c) i.residual)) (ap (step_by c p) at) (turn-moves c p rest top i at)

evaluate_moves : (c : Config) (stack runnable : List ℕ) → c.cycle.phase ≡ phase.Evaluate → c.processes.stack ≡ stack → IfWent (evaluate c stack runnable) (StepMoves c)
evaluate_moves c (p ∷ rest) runnable now top = went_moves c (statement_step c p) (turn_moves c p rest now top (instance_at c p) refl)
evaluate_moves c [] (q ∷ runnable) now top = tt
evaluate_moves c [] [] now top = between (update_step c) (subst IsLater (sym now) tt) (update_step_moves c)

initialization_moves : (c : Config) → c.cycle.phase ≡ phase.Start → StepMoves c (initialization c)
initialization_moves c now =
    let a = all_announced c in
    let d = initialize_each 0 c.design.processes (update_phase c) in
    initializing (update_phase c) (initialization c) now (update_moves c) (ap (λ (x : Config). x.processes) a.same) (ap (λ (x : Config). x.cycle) a.same)
    (then (delta_phase d) (move.entering_phase phase.Evaluate) (delta_moves d) (refl, tt)) refl

phase_moves : (c : Config) (ph : Phase) → c.cycle.phase ≡ ph → IfWent (step_in c ph) (StepMoves c)
phase_moves c phase.Idle now = script_moves c c.script now
phase_moves c phase.Start now = initialization_moves c now
phase_moves c phase.Evaluate now = evaluate_moves c c.processes.stack c.processes.runnable now refl
phase_moves c phase.Notify now =
    let ph = phase_after (delta_phase c).processes.runnable in
    between (delta_step c) (subst IsLater (sym now) tt) (then (delta_phase c) (move.entering_phase ph) (delta_moves c) (refl, later_after (delta_phase c).processes.runnable))
phase_moves c phase.Timed now = timed_moves c (earliest c) now

unless_stopped : (c : Config) (b : Bool) (x : Outcome) → IfWent x (StepMoves c) → IfWent (cond b ended x) (StepMoves c)
unless_stopped c true x h = tt
unless_stopped c false x h = h

pub step-moves : (c d : Config) → step c ≡ went d → StepMoves c d
step-moves c d to = subst (λ x. IfWent x (StepMoves c)) to (unless_stopped c c.cycle.stopped (step_in c c.cycle.phase) (phase_moves c c.cycle.phase refl))

-- ---- a taking comes only where nothing is on the stack

takes_if : (b : Bool) (x : Outcome) → cond b ended x ≡ takes → x ≡ takes
takes_if true x h = cc
takes_if false x h = h

not_takes : (m : Result Config RunFault) → as_outcome m ≡ takes → ⊥
not_takes (Ok d) h = cc
not_takes (Err f) h = cc

command_takes : (c : Config) (ks : List Command) → next_command c ks ≡ takes → ⊥
command_takes c [] h = cc
command_takes c (k ∷ ks) h = not_takes (carry_out (record c { script = ks }) k) h

evaluate_takes : (c : Config) (stack runnable : List ℕ) → evaluate c stack runnable ≡ takes → stack ≡ []
evaluate_takes c (p ∷ rest) runnable h = absurd (not_takes (statement_step c p) h)
evaluate_takes c [] runnable h = refl

phase_takes : (c : Config) (ph : Phase) → step_in c ph ≡ takes → c.processes.stack ≡ []
phase_takes c phase.Idle h = absurd (command_takes c c.script h)
phase_takes c phase.Start h = cc
phase_takes c phase.Evaluate h = evaluate_takes c c.processes.stack c.processes.runnable h
phase_takes c phase.Notify h = cc
phase_takes c phase.Timed h = cc

pub takes-empty : (c : Config) → step c ≡ takes → c.processes.stack ≡ []
takes-empty c h = phase_takes c c.cycle.phase (takes_if c.cycle.stopped (step_in c c.cycle.phase) h)

-- ---- a taking

begins_moves : (o d : Config) (p : ℕ) (i : Instance) → d.processes.stack ≡ p ∷ [] → instance_at d p ≡ Some i → Moves (Some p) o d → (b : Bool) → i.started ≡ b
    → Moves (Some p) o (cond b d (begins (change_instance d p (λ j. record j { trigger = None })) p i))
begins_moves o d p i top at m true is = m
begins_moves o d p i top at m false is =
    then (change_instance d p (λ j. record j { trigger = None })) (move.beginning p i.code i.arguments) (then d (move.triggering p None) m refl)
    (record { is_turn = refl; rest = []; top = top }, record i { trigger = None }, change-at d.processes.instances p (λ j. record j { trigger = None }) i at, is, refl, refl)

taken_moves : (c : Config) (p : ℕ) → c.processes.stack ≡ [] → holds c.processes.runnable p ≡ true → (x : Option Instance) → instance_at c p ≡ x → TakingMoves c p (instance_taken c p x)
taken_moves c p empty is None at = of_none
taken_moves c p empty is (Some i) at =
    let d = turn_taken c p in
    let told = turn (turn_line c.cycle.now i.path p) in
    of_one i (instance_taken c p (Some i)) empty at is (begins_moves d (with_told d told) p i refl at (then d (move.telling told) move.none tt) i.started refl)

taken_if_moves : (c d : Config) (p : ℕ) → c.processes.stack ≡ [] → (b : Bool) → holds c.processes.runnable p ≡ b → taken_if c p b ≡ Some d → TakingMoves c p d
taken_if_moves c d p empty true is to = subst (TakingMoves c p) (same_Some (instance_taken c p (instance_at c p)) d to) (taken_moves c p empty is (instance_at c p) refl)
taken_if_moves c d p empty false is to = absurd (none-some d to)

pub taken-moves : (c d : Config) (p : ℕ) → c.processes.stack ≡ [] → taking c p ≡ Some d → TakingMoves c p d
taken-moves c d p empty to = taken_if_moves c d p empty (holds c.processes.runnable p) refl to

pub taking-moves : (c d : Config) (p : ℕ) → step c ≡ takes → taking c p ≡ Some d → TakingMoves c p d
taking-moves c d p now to = taken-moves c d p (takes-empty c now) to
