-- Each step of a run, and each taking of a process, leaves each process to itself.
use Rattle.std.proofs.Common.{◌≡◌, ◌<◌, inl, inr, ℕ, Bool, true, false, cond, List, [], ◌∷◌, length, Option, Some, None, refl, sym, ap, ◌∙◌, subst, true≢false}
use Rattle.std.specs.Prelude.{◌⊎◌, ⊤, Result, Ok, Err}
use Rattle.std.specs.Result.{IfOk}
use Rattle.std.proofs.lemmas.Option.{none-some, same_Some, slice_get_within}
use Rattle.sim_model.specs.LogicValues.declared.kinds.Value.{Value}
use Rattle.sim_model.specs.FlatDesign.Code.{arena_of}
use Rattle.sim_model.specs.FlatDesign.declared.design.Design.{Design}
use Rattle.sim_model.specs.FlatDesign.declared.faults.RunFault.{RunFault}
use Rattle.sim_model.specs.Residual.{begun}
use Rattle.sim_model.specs.Configuration.{Config, Cycle, Instance, turn, arena, change, change_instance, instance_at, with_runnable, with_stack, with_told}
use Rattle.sim_model.specs.Waits.{holds, without}
use Rattle.sim_model.specs.Control.{begins}
use Rattle.sim_model.specs.Statements.{statement_step}
use Rattle.sim_model.specs.Phases.{initialization, update_step, delta_step, timed_step}
use Rattle.sim_model.specs.Steps.{Outcome, went, faulted, takes, ended, as_outcome, carry_out, next_command, evaluate, step_in, step, turn_line, instance_taken, taken_if, taking}
use Rattle.sim_model.specs.declared.plain.Phase.{Phase}
use Rattle.sim_model.specs.declared.plain.Phase.TheVariants as phase
use Rattle.sim_model.specs.declared.plain.Command.{Command}
use Rattle.laws_order.specs.Own.{IsLeftOf}
use Rattle.laws_order.specs.Fits.{KeepsToItself, AreOnTheirOwn, HasOneAtMost, Fits}
use Rattle.laws_order.proofs.Blocks.{body-of}
use Rattle.laws_order.proofs.Lefts.{entered-left}
use Rattle.laws_order.proofs.OwnUnheard.{StaticsFixed}
use Rattle.laws_order.proofs.Within.{process-as, own-changed, triggers-to, IsWithin}
use Rattle.laws_order.proofs.OwnTurning.{EachMayDo, step-within}
use Rattle.laws_order.proofs.Between.{IsBetween, update-between, initialization-between, delta-between, timed-between, command-between}

-- ---- what went, where a step goes

abbrev pub IfWent : Outcome → (Config → Type 0) → Type 0
IfWent (went c) P = P c
IfWent (faulted f) P = ⊤
IfWent takes P = ⊤
IfWent ended P = ⊤

pub outcome-went : (P : Config → Type 0) (m : Result Config RunFault) → IfOk m P → IfWent (as_outcome m) P
outcome-went P (Ok c) h = h
outcome-went P (Err f) h = tt

abbrev pub evaluates : Phase → Bool
evaluates phase.Idle = false
evaluates phase.Start = false
evaluates phase.Evaluate = true
evaluates phase.Notify = false
evaluates phase.Timed = false

-- what fits with p alone on the stack, where it was taken
pub record Begun (d : Design) (p : ℕ) (c e : Config) : Type 0 where
  pub fits : Fits d e
  pub alone : e.processes.stack ≡ p ∷ []
  pub among : p < length d.processes
  pub cycle : e.cycle ≡ c.cycle
  pub runnable : e.processes.runnable ≡ without c.processes.runnable p

-- who is on the stack is alone there
pub record IsAlone (d : Design) (c : Config) (p : ℕ) : Type 0 where
  pub alone : c.processes.stack ≡ p ∷ []
  pub among : p < length d.processes

abbrev pub first_if : List ℕ → Option ℕ
first_if [] = None
first_if (q ∷ qs) = Some q

module _ (d : Design) (statics : StaticsFixed d) (may : (p : ℕ) → EachMayDo d p) where
  -- ---- from what fits to what is shown of steps, and back

  between_of : (c : Config) → Fits d c → c.processes.stack ≡ [] → IsBetween d c
  between_of c h empty = record { design_is = h.design; own = h.processes; empty = empty; goes_on = h.not_stopped; not_asked = h.not_asked }

  fits_between : (c : Config) → IsBetween d c → Fits d c
  fits_between c h = record { design = h.design_is; processes = h.own; stack = inl h.empty; evaluates = inr h.empty; not_stopped = h.goes_on; not_asked = h.not_asked }

  at_rest : (c : Config) → Fits d c → evaluates c.cycle.phase ≡ false → c.processes.stack ≡ []
  at_rest c h off = by h.evaluates
    where
      by : (c.cycle.phase ≡ phase.Evaluate) ⊎ (c.processes.stack ≡ []) → c.processes.stack ≡ []
      by (inl is) = absurd (true≢false (sym (ap evaluates is) ∙ off))
      by (inr is) = is

  -- ---- a step of the process that is alone on the stack

  one_at_most : (p : ℕ) (stack : List ℕ) → p < length d.processes → (stack ≡ p ∷ []) ⊎ (stack ≡ []) → HasOneAtMost d stack
  one_at_most p stack among (inl is) = inr (p, is, among)
  one_at_most p stack among (inr is) = inl is

  pub fits-within : (p : ℕ) (c e : Config) → p < length d.processes → Fits d c → c.cycle.phase ≡ phase.Evaluate → IsWithin d p c e → Fits d e
  fits-within p c e among h evaluating k = record {
    design = k.design_is;
    processes = k.own;
    stack = one_at_most p e.processes.stack among k.stack_is;
    evaluates = inl (ap (λ (x : Cycle). x.phase) k.cycle_is ∙ evaluating);
    not_stopped = ap (λ (x : Cycle). x.stopped) k.cycle_is ∙ h.not_stopped;
    not_asked = ap (λ (x : Cycle). x.stop_asked) k.cycle_is ∙ h.not_asked;
  }

  pub alone-within : (c : Config) (p : ℕ) → Fits d c → c.processes.stack ≡ p ∷ [] → IfOk (statement_step c p) (IsWithin d p c)
  alone-within c p h alone =
      subst (λ (x : Design). IfOk (statement_step c p) (IsWithin x p c)) h.design
      (step-within c p (subst StaticsFixed (sym h.design) statics) (subst (λ (x : Design). EachMayDo x p) (sym h.design) (may p))
      (subst (λ (x : Design). AreOnTheirOwn x c.processes.instances) (sym h.design) h.processes) alone)

  pub alone-on : (c : Config) (p : ℕ) (rest : List ℕ) → HasOneAtMost d c.processes.stack → c.processes.stack ≡ p ∷ rest → IsAlone d c p
  alone-on c p rest (inl empty) is = absurd (none-some p (sym (ap first_if empty) ∙ ap first_if is))
  alone-on c p rest (inr one_) is =
      let same = same_Some one_.0 p (sym (ap first_if one_.1) ∙ ap first_if is) in
      record { alone = one_.1 ∙ ap (λ n. n ∷ []) same; among = subst (λ n. n < length d.processes) same one_.2 }

  -- ---- each step

  if_weaker : (P Q : Config → Type 0) (m : Result Config RunFault) → ((e : Config) → P e → Q e) → IfOk m P → IfOk m Q
  if_weaker P Q (Ok e) weaker h = weaker e h
  if_weaker P Q (Err f) weaker h = tt

  evaluate_fits : (c : Config) (stack runnable : List ℕ) → c.processes.stack ≡ stack → c.cycle.phase ≡ phase.Evaluate → Fits d c → IfWent (evaluate c stack runnable) (Fits d)
  evaluate_fits c (p ∷ stack) runnable is evaluating h =
      let a = alone-on c p stack h.stack is in
      outcome-went (Fits d) (statement_step c p) (if_weaker (IsWithin d p c) (Fits d) (statement_step c p) (λ e k. fits-within p c e a.among h evaluating k) (alone-within c p h a.alone))
  evaluate_fits c [] (q ∷ runnable) is evaluating h = tt
  evaluate_fits c [] [] is evaluating h = fits_between (update_step c) (update-between d c (between_of c h is))

  command_fits : (c : Config) (ks : List Command) → IsBetween d c → IfWent (next_command c ks) (Fits d)
  command_fits c [] h = tt
  command_fits c (k ∷ ks) h =
      outcome-went (Fits d) (carry_out (record c { script = ks }) k) (if_weaker (IsBetween d) (Fits d) (carry_out (record c { script = ks }) k) fits_between (command-between d (record c { script = ks }) k h))

  step_fits : (c : Config) (ph : Phase) → c.cycle.phase ≡ ph → Fits d c → IfWent (step_in c ph) (Fits d)
  step_fits c phase.Idle is h = command_fits c c.script (between_of c h (at_rest c h (ap evaluates is)))
  step_fits c phase.Start is h = fits_between (initialization c) (initialization-between d c (between_of c h (at_rest c h (ap evaluates is))))
  step_fits c phase.Evaluate is h = evaluate_fits c c.processes.stack c.processes.runnable refl is h
  step_fits c phase.Notify is h = fits_between (delta_step c) (delta-between d c (between_of c h (at_rest c h (ap evaluates is))))
  step_fits c phase.Timed is h = fits_between (timed_step c) (timed-between d c (between_of c h (at_rest c h (ap evaluates is))))

  unless_stopped : (b : Bool) (o : Outcome) → IfWent o (Fits d) → IfWent (cond b ended o) (Fits d)
  unless_stopped true o h = tt
  unless_stopped false o h = h

  pub step-fits : (c : Config) → Fits d c → IfWent (step c) (Fits d)
  step-fits c h = unless_stopped c.cycle.stopped (step_in c c.cycle.phase) (step_fits c c.cycle.phase refl h)

  -- ---- a step that is none of a process leaves the stack empty

  abbrev pub IsEmpty : Config → Type 0
  IsEmpty e = e.processes.stack ≡ []

  evaluate_empty : (c : Config) (stack runnable : List ℕ) → c.processes.stack ≡ stack → IsEmpty c → Fits d c → IfWent (evaluate c stack runnable) IsEmpty
  evaluate_empty c (p ∷ stack) runnable is empty h = absurd (none-some p (ap first_if (sym empty ∙ is)))
  evaluate_empty c [] (q ∷ runnable) is empty h = tt
  evaluate_empty c [] [] is empty h = (update-between d c (between_of c h empty)).empty

  command_empty : (c : Config) (ks : List Command) → IsBetween d c → IfWent (next_command c ks) IsEmpty
  command_empty c [] h = tt
  command_empty c (k ∷ ks) h =
      outcome-went IsEmpty (carry_out (record c { script = ks }) k) (if_weaker (IsBetween d) IsEmpty (carry_out (record c { script = ks }) k) (λ e b. b.empty) (command-between d (record c { script = ks }) k h))

  step_empty : (c : Config) (ph : Phase) → IsEmpty c → Fits d c → IfWent (step_in c ph) IsEmpty
  step_empty c phase.Idle empty h = command_empty c c.script (between_of c h empty)
  step_empty c phase.Start empty h = (initialization-between d c (between_of c h empty)).empty
  step_empty c phase.Evaluate empty h = evaluate_empty c c.processes.stack c.processes.runnable refl empty h
  step_empty c phase.Notify empty h = (delta-between d c (between_of c h empty)).empty
  step_empty c phase.Timed empty h = (timed-between d c (between_of c h empty)).empty

  unless_empty : (b : Bool) (o : Outcome) → IfWent o IsEmpty → IfWent (cond b ended o) IsEmpty
  unless_empty true o h = tt
  unless_empty false o h = h

  pub step-empty : (c : Config) → IsEmpty c → Fits d c → IfWent (step c) IsEmpty
  step-empty c empty h = unless_empty c.cycle.stopped (step_in c c.cycle.phase) (step_empty c c.cycle.phase empty h)

  -- ---- the taking of a process

  body_left : (p : ℕ) (i : Instance) → KeepsToItself d p i → (args : List Value) → IsLeftOf d p (begun (arena_of d.code) i.code args)
  body_left p i h args =
      subst (λ f. IsLeftOf d p (begun (arena_of d.code) f args)) (sym (ap (λ (j : Instance). j.code) h.process.same))
      (entered-left d p h.process.part.code args None (λ n is. absurd (none-some n is)) (body-of d p h.process.part h.process.found))

  begins_to : (p : ℕ) (i : Instance) → KeepsToItself d p i → (args : List Value) (j : Instance) → KeepsToItself d p j
      → KeepsToItself d p (record j { residual = begun (arena_of d.code) i.code args; started = true })
  begins_to p i h args j k = record {
    process = process-as d p j (record j { residual = begun (arena_of d.code) i.code args; started = true }) refl k.process;
    left = body_left p i h args;
    wait = k.wait;
    trigger = k.trigger;
    suspended = k.suspended;
    disabled = k.disabled;
  }

  module _ (c : Config) (p : ℕ) (h : Fits d c) (evaluating : c.cycle.phase ≡ phase.Evaluate) where
    abbrev on_stack : Instance → Config
    on_stack i = with_told (with_stack (with_runnable c (without c.processes.runnable p)) (p ∷ [])) (turn (turn_line c.cycle.now i.path p))

    begun_with : (e : Config) → p < length d.processes → e.design ≡ d → AreOnTheirOwn d e.processes.instances → e.processes.stack ≡ p ∷ [] → e.cycle ≡ c.cycle
        → e.processes.runnable ≡ without c.processes.runnable p → Begun d p c e
    begun_with e among design own alone cycle runnable = record {
      fits = record {
        design = design;
        processes = own;
        stack = inr (p, alone, among);
        evaluates = inl (ap (λ (x : Cycle). x.phase) cycle ∙ evaluating);
        not_stopped = ap (λ (x : Cycle). x.stopped) cycle ∙ h.not_stopped;
        not_asked = ap (λ (x : Cycle). x.stop_asked) cycle ∙ h.not_asked;
      };
      alone = alone;
      among = among;
      cycle = cycle;
      runnable = runnable;
    }

    begun_unless : (b : Bool) (i : Instance) → p < length d.processes → instance_at c p ≡ Some i → Begun d p c (cond b (on_stack i) (begins (change_instance (on_stack i) p (λ j. record j { trigger = None })) p i))
    begun_unless true i among at = begun_with (on_stack i) among h.design h.processes refl refl refl
    begun_unless false i among at =
        begun_with (begins (change_instance (on_stack i) p (λ j. record j { trigger = None })) p i) among h.design
        (own-changed d (change c.processes.instances p (λ j. record j { trigger = None })) p (λ j. record j { residual = begun (arena c) i.code i.arguments; started = true })
        (subst (λ (x : Design). (j : Instance) → KeepsToItself d p j → KeepsToItself d p (record j { residual = begun (arena_of x.code) i.code i.arguments; started = true })) (sym h.design) (begins_to p i (h.processes.each p i at) i.arguments))
        (own-changed d c.processes.instances p (λ j. record j { trigger = None }) (triggers-to d p None tt) h.processes))
        refl refl refl

    taken_begins : (i : Instance) → instance_at c p ≡ Some i → Begun d p c (instance_taken c p (Some i))
    taken_begins i at = begun_unless i.started i (subst (λ n. p < n) h.processes.counted (slice_get_within c.processes.instances p i at)) at

    taken_fits : (o : Option Instance) → instance_at c p ≡ o → Fits d (instance_taken c p o)
    taken_fits None at = h
    taken_fits (Some i) at = (taken_begins i at).fits

  -- ---- where a process is taken

  abbrev is_taking : Outcome → Bool
  is_taking (went e) = false
  is_taking (faulted f) = false
  is_taking takes = true
  is_taking ended = false

  never : {A : Type 0} (o : Outcome) → is_taking o ≡ false → o ≡ takes → A
  never o off is = absurd (true≢false (sym (ap is_taking is) ∙ off))

  answers : (m : Result Config RunFault) → is_taking (as_outcome m) ≡ false
  answers (Ok e) = refl
  answers (Err f) = refl

  abbrev TakesAt : Config → Type 0
  TakesAt c = (c.cycle.phase ≡ phase.Evaluate) × (c.processes.stack ≡ [])

  takes_next : (c : Config) (ks : List Command) → next_command c ks ≡ takes → TakesAt c
  takes_next c [] is = never ended refl is
  takes_next c (k ∷ ks) is = never (as_outcome (carry_out (record c { script = ks }) k)) (answers (carry_out (record c { script = ks }) k)) is

  takes_evaluating : (c : Config) (stack runnable : List ℕ) → c.cycle.phase ≡ phase.Evaluate → c.processes.stack ≡ stack → evaluate c stack runnable ≡ takes → TakesAt c
  takes_evaluating c (p ∷ stack) runnable evaluating at is = never (as_outcome (statement_step c p)) (answers (statement_step c p)) is
  takes_evaluating c [] (q ∷ runnable) evaluating at is = (evaluating, at)
  takes_evaluating c [] [] evaluating at is = never (went (update_step c)) refl is

  takes_in : (c : Config) (ph : Phase) → c.cycle.phase ≡ ph → step_in c ph ≡ takes → TakesAt c
  takes_in c phase.Idle at is = takes_next c c.script is
  takes_in c phase.Start at is = never (went (initialization c)) refl is
  takes_in c phase.Evaluate at is = takes_evaluating c c.processes.stack c.processes.runnable at refl is
  takes_in c phase.Notify at is = never (went (delta_step c)) refl is
  takes_in c phase.Timed at is = never (went (timed_step c)) refl is

  takes_unless : (b : Bool) (o : Outcome) → cond b ended o ≡ takes → o ≡ takes
  takes_unless true o is = never ended refl is
  takes_unless false o is = is

  pub takes-at : (c : Config) → step c ≡ takes → TakesAt c
  takes-at c is = takes_in c c.cycle.phase refl (takes_unless c.cycle.stopped (step_in c c.cycle.phase) is)

  begins_by : (c e : Config) (p : ℕ) (b : Bool) → Fits d c → TakesAt c → (i : Instance) → instance_at c p ≡ Some i → taken_if c p b ≡ Some e → Begun d p c e
  begins_by c e p true h at i found is =
      subst (Begun d p c) (sym (ap (instance_taken c p) found) ∙ same_Some (instance_taken c p (instance_at c p)) e is) (taken_begins c p h at.0 i found)
  begins_by c e p false h at i found is = absurd (none-some e is)

  pub taking-begins : (c : Config) (p : ℕ) (e : Config) → step c ≡ takes → Fits d c → (i : Instance) → instance_at c p ≡ Some i → taking c p ≡ Some e → Begun d p c e
  taking-begins c p e now h i found is = begins_by c e p (holds c.processes.runnable p) h (takes-at c now) i found is

  taken_by : (c e : Config) (p : ℕ) (b : Bool) → Fits d c → TakesAt c → taken_if c p b ≡ Some e → Fits d e
  taken_by c e p true h at is = subst (Fits d) (same_Some (instance_taken c p (instance_at c p)) e is) (taken_fits c p h at.0 (instance_at c p) refl)
  taken_by c e p false h at is = absurd (none-some e is)

  pub taking-fits : (c : Config) (p : ℕ) (e : Config) → step c ≡ takes → Fits d c → taking c p ≡ Some e → Fits d e
  taking-fits c p e now h is = taken_by c e p (holds c.processes.runnable p) h (takes-at c now) is
