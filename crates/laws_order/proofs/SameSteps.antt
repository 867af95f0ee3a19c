-- Commands of the script, takings and whole steps, from two configurations that are the same.
use Rattle.std.proofs.Common.{◌≡◌, ◌+◌, ℕ, Bool, true, false, cond, List, [], ◌∷◌, slice_get, Option, Some, None, option_map, refl, sym, ap, ◌∙◌, subst}
use Rattle.std.specs.Prelude.{Result, Ok, Err}
use Rattle.std.proofs.lemmas.Bool.{false≢true}
use Rattle.std.proofs.lemmas.Option.{none-some, same_Some}
use Rattle.sim_model.specs.LogicValues.declared.kinds.Value.{Value}
use Rattle.sim_model.specs.SimTime.declared.moments.Time.{Time}
use Rattle.sim_model.specs.SignalChannel.Signals.{written}
use Rattle.sim_model.specs.FlatDesign.declared.design.Visible.{Visible}
use Rattle.sim_model.specs.FlatDesign.declared.design.VisibleId.{VisibleId}
use Rattle.sim_model.specs.FlatDesign.declared.design.VisibleId.TheVariants as visible_id
use Rattle.sim_model.specs.FlatDesign.declared.faults.RunFault.{RunFault}
use Rattle.sim_model.specs.Values.{on_ok, time_within}
use Rattle.sim_model.specs.Residual.{Residual, begun}
use Rattle.sim_model.specs.Configuration.{Config, Instance, Channels, Cycle, line, turn, path_of, arena, change, change_instance, instance_at, with_told, with_stack, with_runnable}
use Rattle.sim_model.specs.Waits.{holds, without}
use Rattle.sim_model.specs.Control.{begins}
use Rattle.sim_model.specs.Phases.{visible_value}
use Rattle.sim_model.specs.Steps.{Outcome, ended, as_outcome, show_line, shows, sets, sets_visible, first_phase, run_begun, begin_run, carry_out, next_command, evaluate, step_in, step, turn_line, begins_unless_begun, instance_taken, taken_if, taking}
use Rattle.sim_model.specs.declared.plain.Phase.{Phase}
use Rattle.sim_model.specs.declared.plain.Phase.TheVariants as phase
use Rattle.sim_model.specs.declared.plain.Command.{Command}
use Rattle.sim_model.specs.declared.plain.Command.TheVariants as command
use Rattle.laws_order.specs.Sees.{unnumbered}
use Rattle.laws_order.specs.Same.{Same}
use Rattle.laws_order.specs.SameSteps.{SameOutcome, SameTaking, IsBetweenTurns}
use Rattle.laws_order.proofs.SameLists.{HoldSame, none-held, some-held, without-holds}
use Rattle.laws_order.proofs.Moves.{by-tests, plain, change-same, with-cycle, with-channels, channels-same, told-same}
use Rattle.laws_order.proofs.Updating.{ResolveAlike}
use Rattle.laws_order.proofs.Notifying.{update-step, delta-step, initialization-same, timed-step, now-same}

-- ---- commands

visible_same : (c x : Config) → Same c x → (i : ℕ) → slice_get x.design.visible i ≡ slice_get c.design.visible i
visible_same c x h i = ap (λ (k : Config). slice_get k.design.visible i) h.alike.shared

shows_same : (c x : Config) (o : Option Visible) → Same c x → Same (shows c o) (shows x o)
shows_same c x None h = h
shows_same c x (Some v) h = told-same c x (line (show_line c.cycle.now (path_of c.design v.object) (visible_value c v.id))) (line (show_line x.cycle.now (path_of x.design v.object) (visible_value x v.id))) h

sets_same : (c x : Config) (v : Value) (n : VisibleId) → Same c x → Same (sets c v n) (sets x v n)
sets_same c x v (visible_id.Signal n) h =
    let f = λ (k : Channels). record k { signals = change k.signals n (written None v) } in
    with-channels c x (f c.channels) (f x.channels) (ap f (channels-same c x h)) h.drivers h
sets_same c x v (visible_id.Resolved n) h = h

sets_all : (c x : Config) (v : Value) (o : Option Visible) → Same c x → Same (sets_visible c v o) (sets_visible x v o)
sets_all c x v None h = h
sets_all c x v (Some k) h = sets_same c x v k.id h

begun_same : (c x : Config) (end : Option ℕ) → Same c x → Same (run_begun c end) (run_begun x end)
begun_same c x end h = with-cycle c x (λ (y : Cycle). record y { phase = first_phase y.begun; begun = true; end = end; stop_asked = false }) h

within_same : (c x : Config) (m : Result ℕ RunFault) → Same c x → SameOutcome (as_outcome (on_ok m (λ end. Ok (run_begun c (Some end))))) (as_outcome (on_ok m (λ end. Ok (run_begun x (Some end)))))
within_same c x (Ok end) h = begun_same c x (Some end) h
within_same c x (Err f) h = refl

runs_same : (c x : Config) (o : Option Time) → Same c x → SameOutcome (as_outcome (begin_run c o)) (as_outcome (begin_run x o))
runs_same c x None h = begun_same c x None h
runs_same c x (Some d) h =
    subst (λ m. SameOutcome (as_outcome (begin_run c (Some d))) (as_outcome (on_ok m (λ end. Ok (run_begun x (Some end)))))) (sym (ap (λ (y : Cycle). time_within (y.now + d.0)) (now-same c x h)))
    (within_same c x (time_within (c.cycle.now + d.0)) h)

pub carried-same : (c x : Config) (k : Command) → Same c x → SameOutcome (as_outcome (carry_out c k)) (as_outcome (carry_out x k))
carried-same c x (command.Run d) h = runs_same c x d h
carried-same c x (command.Set i v) h = subst (λ o. Same (sets_visible c v (slice_get c.design.visible i)) (sets_visible x v o)) (sym (visible_same c x h i)) (sets_all c x v (slice_get c.design.visible i) h)
carried-same c x (command.Show i) h = subst (λ o. Same (shows c (slice_get c.design.visible i)) (shows x o)) (sym (visible_same c x h i)) (shows_same c x (slice_get c.design.visible i) h)

with_script : (c x : Config) (ks : List Command) → Same c x → Same (record c { script = ks }) (record x { script = ks })
with_script c x ks h = record {
  alike = record { instances = h.alike.instances; runnable = h.alike.runnable; stack = h.alike.stack; values = h.alike.values; shared = ap (λ (k : Config). record k { script = ks }) h.alike.shared };
  drivers = h.drivers;
}

next_same : (c x : Config) (ks : List Command) → Same c x → SameOutcome (next_command c ks) (next_command x ks)
next_same c x [] h = tt
next_same c x (k ∷ ks) h = carried-same (record c { script = ks }) (record x { script = ks }) k (with_script c x ks h)

pub script-same : (c x : Config) → Same c x → x.script ≡ c.script
script-same c x h = ap (λ (k : Config). k.script) h.alike.shared

pub command-same : (c x : Config) → Same c x → SameOutcome (next_command c c.script) (next_command x x.script)
command-same c x h = subst (λ ks. SameOutcome (next_command c c.script) (next_command x ks)) (sym (script-same c x h)) (next_same c x c.script h)

-- ---- a taking

fresh_same : (c x : Config) (p : ℕ) → Same c x → Same (change_instance c p (λ (j : Instance). record j { trigger = None })) (change_instance x p (λ (j : Instance). record j { trigger = None }))
fresh_same c x p h = change-same c x p (λ (j : Instance). record j { trigger = None }) (plain (λ (j : Instance). record j { trigger = None }) (λ j. refl)) h

on_top : (c x : Config) (p : ℕ) → Same c x → Same (with_stack (with_runnable c (without c.processes.runnable p)) (p ∷ [])) (with_stack (with_runnable x (without x.processes.runnable p)) (p ∷ []))
on_top c x p h = record {
  alike = record { instances = h.alike.instances; runnable = without-holds c.processes.runnable x.processes.runnable p h.alike.runnable; stack = refl; values = h.alike.values; shared = h.alike.shared };
  drivers = h.drivers;
}

begins_same : (c x : Config) (p : ℕ) (i j : Instance) → unnumbered j ≡ unnumbered i → Same c x → Same (begins c p i) (begins x p j)
begins_same c x p i j same h =
    subst (λ (r : Residual). Same (begins c p i) (change_instance x p (λ (k : Instance). record k { residual = r; started = true })))
    (sym (ap (λ (k : Instance). begun (arena x) k.code k.arguments) same ∙ ap (λ (k : Config). begun (arena k) i.code i.arguments) h.alike.shared))
    (change-same c x p (λ (k : Instance). record k { residual = begun (arena c) i.code i.arguments; started = true }) (plain_begun) h)
  where
    plain_begun : (k l : Instance) → unnumbered l ≡ unnumbered k
        → unnumbered (record l { residual = begun (arena c) i.code i.arguments; started = true }) ≡ unnumbered (record k { residual = begun (arena c) i.code i.arguments; started = true })
    plain_begun k l e = ap (λ (n : Instance). unnumbered (record n { residual = begun (arena c) i.code i.arguments; started = true })) e

begun_unless : (c x : Config) (p : ℕ) (i j : Instance) → unnumbered j ≡ unnumbered i → Same c x → Same (begins_unless_begun c p i) (begins_unless_begun x p j)
begun_unless c x p i j same h =
    by-tests i.started j.started c (begins (change_instance c p (λ (k : Instance). record k { trigger = None })) p i) x (begins (change_instance x p (λ (k : Instance). record k { trigger = None })) p j)
    (ap (λ (k : Instance). k.started) same) h
    (begins_same (change_instance c p (λ (k : Instance). record k { trigger = None })) (change_instance x p (λ (k : Instance). record k { trigger = None })) p i j same (fresh_same c x p h))

taken_at : (c x : Config) (p : ℕ) (o r : Option Instance) → option_map unnumbered r ≡ option_map unnumbered o → Same c x → Same (instance_taken c p o) (instance_taken x p r)
taken_at c x p None None same h = h
taken_at c x p None (Some j) same h = absurd (none-some (unnumbered j) (sym same))
taken_at c x p (Some i) None same h = absurd (none-some (unnumbered i) same)
taken_at c x p (Some i) (Some j) same h =
    let d = with_stack (with_runnable c (without c.processes.runnable p)) (p ∷ []) in
    let y = with_stack (with_runnable x (without x.processes.runnable p)) (p ∷ []) in
    let t = turn (turn_line c.cycle.now i.path p) in
    let u = turn (turn_line x.cycle.now j.path p) in
    begun_unless (with_told d t) (with_told y u) p i j (same_Some (unnumbered j) (unnumbered i) same) (told-same d y t u (on_top c x p h))

taken_by : (c x : Config) (p : ℕ) (b : Bool) → Same c x → SameTaking (taken_if c p b) (taken_if x p b)
taken_by c x p true h = taken_at c x p (instance_at c p) (instance_at x p) (h.alike.instances p) h
taken_by c x p false h = tt

pub taking-same : (c x : Config) (p : ℕ) → Same c x → SameTaking (taking c p) (taking x p)
taking-same c x p h = subst (λ b. SameTaking (taking c p) (taken_if x p b)) (sym (h.alike.runnable p)) (taken_by c x p (holds c.processes.runnable p) h)

-- ---- a step that is none of a process in its turn

evaluated_same : ResolveAlike → (c x : Config) (rs qs : List ℕ) → HoldSame rs qs → Same c x → SameOutcome (evaluate c [] rs) (evaluate x [] qs)
evaluated_same resolves c x [] [] held h = update-step resolves c x h
evaluated_same resolves c x [] (q ∷ qs) held h = absurd (false≢true (none-held q qs held))
evaluated_same resolves c x (r ∷ rs) [] held h = absurd (false≢true (some-held r rs held))
evaluated_same resolves c x (r ∷ rs) (q ∷ qs) held h = tt

evaluating : ResolveAlike → (c x : Config) (s : List ℕ) → s ≡ [] → Same c x → SameOutcome (evaluate c s c.processes.runnable) (evaluate x s x.processes.runnable)
evaluating resolves c x s empty h = subst (λ st. SameOutcome (evaluate c st c.processes.runnable) (evaluate x st x.processes.runnable)) (sym empty) (evaluated_same resolves c x c.processes.runnable x.processes.runnable h.alike.runnable h)

in_phase : ResolveAlike → (c x : Config) (p : Phase) → (p ≡ phase.Evaluate → c.processes.stack ≡ []) → Same c x → SameOutcome (step_in c p) (step_in x p)
in_phase resolves c x phase.Idle empty h = command-same c x h
in_phase resolves c x phase.Start empty h = initialization-same resolves c x h
in_phase resolves c x phase.Evaluate empty h = subst (λ st. SameOutcome (evaluate c c.processes.stack c.processes.runnable) (evaluate x st x.processes.runnable)) (sym h.alike.stack) (evaluating resolves c x c.processes.stack (empty refl) h)
in_phase resolves c x phase.Notify empty h = delta-step c x h
in_phase resolves c x phase.Timed empty h = timed-step c x h

unless_stopped : (b : Bool) (m n : Outcome) → SameOutcome m n → SameOutcome (cond b ended m) (cond b ended n)
unless_stopped true m n h = tt
unless_stopped false m n h = h

pub step-same : ResolveAlike → (c x : Config) → Same c x → IsBetweenTurns c → SameOutcome (step c) (step x)
step-same resolves c x h between =
    subst (λ (y : Cycle). SameOutcome (step c) (cond y.stopped ended (step_in x y.phase))) (sym (now-same c x h))
    (unless_stopped c.cycle.stopped (step_in c c.cycle.phase) (step_in x c.cycle.phase) (in_phase resolves c x c.cycle.phase between h))
