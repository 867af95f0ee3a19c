-- The step of a kill, a reset or an exception begins an unwinding, of the guards that it is to unwind.
use Rattle.std.proofs.Common.{◌≡◌, ◌≢◌, ◌||◌, ◌+◌, ℕ, true, false, cond, List, ◌∷◌, Some, refl, sym, ap, ◌∙◌, subst, ⊎_elim, ne_eqb}
use Rattle.std.specs.Prelude.{Result, Ok, Err}
use Rattle.std.proofs.lemmas.Bool.{cases_eq}
use Rattle.std.proofs.lemmas.Option.{same_Some}
use Rattle.sim_model.specs.ModelTree.declared.items.ProcessKind.TheVariants as process
use Rattle.sim_model.specs.ModelTree.declared.statements.Control.TheVariants as control
use Rattle.sim_model.specs.FlatDesign.Code as code
use Rattle.sim_model.specs.FlatDesign.Code.{Statement}
use Rattle.sim_model.specs.FlatDesign.Sound.{SoundDesign}
use Rattle.sim_model.specs.FlatDesign.declared.design.Design.{Design}
use Rattle.sim_model.specs.FlatDesign.declared.code.Controlled.{Controlled}
use Rattle.sim_model.specs.FlatDesign.declared.faults.RunFault.{RunFault}
use Rattle.sim_model.specs.FlatDesign.declared.faults.RunFault.TheVariants as fault
use Rattle.sim_model.specs.Values.{on_ok}
use Rattle.sim_model.specs.Residual.{Residual, skip, next_of, put, taken_off, has_goal}
use Rattle.sim_model.specs.Unwinding.{unw, catches}
use Rattle.sim_model.specs.Configuration.{Config, Instance, arena, instance_at, with_residual, start}
use Rattle.sim_model.specs.Reading.{Here, here}
use Rattle.sim_model.specs.Calls.{thrown}
use Rattle.sim_model.specs.Control.{top_of, is_top, is_below_top, control_call, throw_call, throws_at, injected, unless_ended, target_of}
use Rattle.sim_model.specs.Statements.{settled_in, do_statement, owed_call, on_statement, owed_by, do_next, step_by}
use Rattle.sim_model.specs.Steps.{as_outcome, ended, evaluate, step_in, went, step}
use Rattle.sim_model.specs.Runs.{after}
use Rattle.sim_model.specs.Waits.{holds}
use Rattle.sim_model.specs.Clean.{open_guards}
use Rattle.sim_model.specs.declared.plain.Command.{Command}
use Rattle.sim_model.specs.declared.plain.Goal.{Goal}
use Rattle.sim_model.specs.declared.plain.Goal.TheVariants as goal_of
use Rattle.sim_model.specs.declared.plain.Phase.TheVariants as phase
use Rattle.laws_runs.proofs.Changes.{change-here, change-other}
use Rattle.laws_runs.proofs.ShapeLemmas.{goalless-normal, settle-normal}
use Rattle.laws_runs.proofs.Fine.{fine-at}
use Rattle.laws_runs.proofs.Shaped.{standing-shaped}
use Rattle.laws_runs.proofs.KeptRuns.{sound-run}
use Rattle.laws_runs.specs.Once.{IsOnTop, UnwindsAll}
use Rattle.laws_runs.specs.Throws.{guards_in_try, UnwindsInTry}
use Rattle.laws_runs.specs.UnwindingCalls.{left_of, ComesTo, OwesTo, NamesTarget, Controls, of_one, of_several, Throws, throws, throws_at_itself, throws_at_another, owed_to_itself, owed_to_another, MayBeUnwound, UnwindsOnTop}
use Rattle.laws_runs.proofs.Killing.{kill-unwinds, reset-unwinds}
use Rattle.laws_runs.proofs.Throwing.{is-top, own-throw, other-throw}
use Rattle.laws_runs.proofs.Pasts.{normal-goalless, goal-past, catches-past, in_try-past, goal-taken, catches-taken, in_try-taken}
use Rattle.laws_runs.proofs.Callers.{one-more_step, all-open}

on_is : {A : Type 0} (m : Result A RunFault) (x : A) (f : A → Result Config RunFault) → m ≡ Ok x → on_ok m f ≡ f x
on_is m x f is = ap (λ z. on_ok z f) is

apart_off : (p q : ℕ) → q ≢ p → (stack rest : List ℕ) → stack ≡ p ∷ rest → holds (top_of stack) q ≡ false
apart_off p q apart stack rest top = ap (λ s. holds (top_of s) q) top ∙ ap (λ b. b || false) (ne_eqb p q (λ same. apart (sym same)))

-- what is left of the caller once it is past its call has the goals, the tries and the guards that it had
record Keeps (w : Residual → Residual) : Type 0 where
  goal : (r : Residual) → has_goal r ≡ false → has_goal (w r) ≡ false
  tries : (e : ℕ) (r : Residual) → catches (w r) e ≡ catches r e
  guards : (e : ℕ) (r : Residual) → guards_in_try (w r) e ≡ guards_in_try r e

abbrev moved_past : Residual → Residual
moved_past r = put r skip

keeps_past : Keeps moved_past
keeps_past = record { goal = goal-past; tries = catches-past; guards = in_try-past }

keeps_taken : Keeps taken_off
keeps_taken = record { goal = λ r none. goal-taken r ∙ none; tries = catches-taken; guards = in_try-taken }

module _ (design : Design) (script : List Command) (sound : SoundDesign design) (n : ℕ) (choices : List ℕ) (c : Config) (reached : after n choices (start design script) ≡ Some c) where
  -- p is i, and on top of the stack
  module _ (p : ℕ) (i : Instance) (there : instance_at c p ≡ Some i) (rest : List ℕ) (on : c.processes.stack ≡ p ∷ rest) where
    abbrev before : Config
    before = settled_in c p i.residual

    abbrev caller : Instance
    caller = record i { residual = left_of c i }

    abbrev place : Here
    place = here (settled_in c p i.residual) p (record i { residual = left_of c i }) (left_of c i)

    step_next : c.cycle.stopped ≡ false → c.cycle.phase ≡ phase.Evaluate → step c ≡ as_outcome (do_next before p caller (left_of c i) (next_of (left_of c i)))
    step_next runs evaluates =
        ap (λ b. cond b ended (step_in c c.cycle.phase)) runs ∙ ap (step_in c) evaluates
        ∙ ap (λ st. evaluate c st c.processes.runnable) on ∙ ap (λ o. as_outcome (step_by c p o)) there

    caller_there : instance_at before p ≡ Some caller
    caller_there = change-here c.processes.instances p _ i there

    settled_goalless : has_goal i.residual ≡ false → has_goal (left_of c i) ≡ false
    settled_goalless none =
        normal-goalless (left_of c i) (settle-normal (arena c) i.residual
        (goalless-normal i.residual (standing-shaped c.design i.home i.residual (fine-at c.design c.processes p i there (sound-run design script sound n choices c reached).1).standing) none))

    on_top : (x : Config) → x.processes.stack ≡ c.processes.stack → IsOnTop p x
    on_top x same = (rest, same ∙ on)

    -- and past its call, this way
    module _ (w : Residual → Residual) (keeps : Keeps w) where
      abbrev past : Config
      past = with_residual (settled_in c p i.residual) p (w (left_of c i))

      -- the target as it is then
      record Target (q : ℕ) : Type 0 where
        then : Instance
        is : instance_at past q ≡ Some then
        lives : then.ended ≡ false
        goalless : has_goal then.residual ≡ false

      abbrev past_caller : Instance
      past_caller = record i { residual = w (left_of c i) }

      past_there : instance_at past p ≡ Some past_caller
      past_there = change-here before.processes.instances p _ caller caller_there

      past_lives : MayBeUnwound c p → i.ended ≡ false
      past_lives m = ap (λ (x : Instance). x.ended) (same_Some i m.target (sym there ∙ m.is)) ∙ m.lives

      past_goalless : MayBeUnwound c p → has_goal (w (left_of c i)) ≡ false
      past_goalless m = keeps.goal (left_of c i) (settled_goalless (ap (λ (x : Instance). has_goal x.residual) (same_Some i m.target (sym there ∙ m.is)) ∙ m.goalless))

      itself : MayBeUnwound c p → Target p
      itself m = record { then = past_caller; is = past_there; lives = past_lives m; goalless = past_goalless m }

      another_is : (q : ℕ) → q ≢ p → instance_at past q ≡ instance_at c q
      another_is q apart = change-other before.processes.instances p q _ apart ∙ change-other c.processes.instances p q _ apart

      target : (q : ℕ) → MayBeUnwound c q → Target q
      target q m = ⊎_elim
          (λ same. subst Target (sym same) (itself (subst (MayBeUnwound c) same m)))
          (λ apart. record { then = m.target; is = another_is q apart ∙ m.is; lives = m.lives; goalless = m.goalless })
          (cases_eq q p)

      -- ---- a kill and a reset

      unwinds_all : (q : ℕ) → MayBeUnwound c q → (d : Config) → step c ≡ went d → (t : Instance) (k : Goal) → UnwindsAll past d q t k → UnwindsOnTop c d q (open_guards q d.trace.marks)
      unwinds_all q m d now t k u = record {
        begins = record {
          went_on = now;
          first = m.target;
          was = m.is;
          goalless = m.goalless;
          then = u.then;
          is = u.is;
          has_one = ap has_goal u.unwound;
          guards = all-open design script sound (n + 1) choices d (one-more_step n choices (start design script) c d reached now) q u.then (unw t.residual) k u.is u.unwound;
        };
        stack = u.stack;
      }

      -- the step makes this call, of this target
      kills : (q : ℕ) → step c ≡ as_outcome (control_call past q control.Kill) → MayBeUnwound c q → (d : Config) × UnwindsOnTop c d q (open_guards q d.trace.marks)
      kills q now m =
          let t = target q m in
          let u = kill-unwinds past q t.then t.is t.lives m.not_below t.goalless in
          (u.0, unwinds_all q m u.0 (now ∙ ap as_outcome u.1) t.then goal_of.End u.2)

      resets : (q : ℕ) → step c ≡ as_outcome (control_call past q control.Reset) → MayBeUnwound c q → (d : Config) × UnwindsOnTop c d q (open_guards q d.trace.marks)
      resets q now m =
          let t = target q m in
          let u = reset-unwinds past q t.then t.is t.lives m.not_below t.goalless in
          (u.0, unwinds_all q m u.0 (now ∙ ap as_outcome u.1) t.then goal_of.Restart u.2)

    -- ---- an exception

    unwinds_try : (q : ℕ) → MayBeUnwound c q → (x d : Config) → x.processes.stack ≡ c.processes.stack → step c ≡ went d → (t : Instance) (e : ℕ) (gs : List ℕ) → guards_in_try t.residual e ≡ gs → UnwindsInTry x d q t e → UnwindsOnTop c d q gs
    unwinds_try q m x d stack now t e gs inside u = record {
      begins = record {
        went_on = now;
        first = m.target;
        was = m.is;
        goalless = m.goalless;
        then = u.instance;
        is = u.is;
        has_one = u.has_one;
        guards = u.inside ∙ inside;
      };
      stack = u.stack ∙ ap (λ st. cond (holds (top_of st) q) st (q ∷ st)) stack;
    }

  -- ---- the step, by what comes next

  module _ (p : ℕ) (i : Instance) (s : Statement) (comes : ComesTo c p i s) where
    statement_is : step c ≡ as_outcome (do_statement (before p i comes.at comes.rest comes.top) p (caller p i comes.at comes.rest comes.top) (left_of c i) (place p i comes.at comes.rest comes.top) comes.number s)
    statement_is =
        let x = settled_in c p i.residual in
        let j = record i { residual = left_of c i } in
        step_next p i comes.at comes.rest comes.top comes.runs comes.evaluates
        ∙ ap as_outcome (ap (do_next x p j (left_of c i)) comes.next ∙ ap (on_statement x p j (left_of c i) comes.number) comes.is)

  module _ (p q : ℕ) (i : Instance) (s : Statement) (owes : OwesTo c p i q s) where
    owed_is : step c ≡ as_outcome (owed_call (with_residual (settled_in c p i.residual) p (taken_off (left_of c i))) q s)
    owed_is =
        let x = settled_in c p i.residual in
        let j = record i { residual = left_of c i } in
        step_next p i owes.at owes.rest owes.top owes.runs owes.evaluates
        ∙ ap as_outcome (ap (do_next x p j (left_of c i)) owes.next ∙ ap (owed_by (with_residual x p (taken_off (left_of c i))) q) owes.is)

  -- ---- a kill and a reset

  pub kill-begins : (p q : ℕ) → Controls c control.Kill p q → MayBeUnwound c q → (d : Config) × UnwindsOnTop c d q (open_guards q d.trace.marks)
  kill-begins p q (of_one i who comes names) m =
      kills p i comes.at comes.rest comes.top moved_past keeps_past q
      (statement_is p i _ comes ∙ ap as_outcome (on_is (target_of (here (settled_in c p i.residual) p (record i { residual = left_of c i }) (left_of c i)) p who) q _ names)) m
  kill-begins p q (of_several i who all owes) m = kills p i owes.at owes.rest owes.top taken_off keeps_taken q (owed_is p q i _ owes) m

  pub reset-begins : (p q : ℕ) → Controls c control.Reset p q → MayBeUnwound c q → (d : Config) × UnwindsOnTop c d q (open_guards q d.trace.marks)
  reset-begins p q (of_one i who comes names) m =
      resets p i comes.at comes.rest comes.top moved_past keeps_past q
      (statement_is p i _ comes ∙ ap as_outcome (on_is (target_of (here (settled_in c p i.residual) p (record i { residual = left_of c i }) (left_of c i)) p who) q _ names)) m
  reset-begins p q (of_several i who all owes) m = resets p i owes.at owes.rest owes.top taken_off keeps_taken q (owed_is p q i _ owes) m

  -- ---- an exception

  -- of the instance itself
  throws_own : (e q : ℕ) (i : Instance) (comes : ComesTo c q i (code.throw e)) → catches (left_of c i) e ≡ true → MayBeUnwound c q → (d : Config) × UnwindsOnTop c d q (guards_in_try (left_of c i) e)
  throws_own e q i comes caught m =
      let x = settled_in c q i.residual in
      let j = record i { residual = left_of c i } in
      let none = settled_goalless q i comes.at comes.rest comes.top (ap (λ (y : Instance). has_goal y.residual) (same_Some i m.target (sym comes.at ∙ m.is)) ∙ m.goalless) in
      let u = own-throw x q j e (caller_there q i comes.at comes.rest comes.top) caught none (on_top q i comes.at comes.rest comes.top x refl) in
      (u.0, unwinds_try q i comes.at comes.rest comes.top q m x u.0 refl (statement_is q i _ comes ∙ ap as_outcome u.1) j e (guards_in_try (left_of c i) e) refl u.2)

  throw_call_top : (x : Config) (q e : ℕ) (t : Instance) → instance_at x q ≡ Some t → t.ended ≡ false → is_below_top x q ≡ false → is_top x q ≡ true → has_goal t.residual ≡ false → throw_call x q e ≡ thrown x q t.residual e
  throw_call_top x q e t at lives below top none =
      ap (λ o. unless_ended x o (λ j. throws_at x q j e)) at
      ∙ ap (λ b. cond {A = Result Config RunFault} b (Ok x) (throws_at x q t e)) lives
      ∙ ap (λ b. cond {A = Result Config RunFault} b (Err (fault.ControlOnActive q)) (cond (is_top x q) (cond (has_goal t.residual) (Ok x) (thrown x q t.residual e)) (injected x q t e))) below
      ∙ ap (λ b. cond {A = Result Config RunFault} b (cond (has_goal t.residual) (Ok x) (thrown x q t.residual e)) (injected x q t e)) top
      ∙ ap (λ b. cond {A = Result Config RunFault} b (Ok x) (thrown x q t.residual e)) none

  -- that it throws at itself, past its call this way
  module _ (e q : ℕ) (i : Instance) (there : instance_at c q ≡ Some i) (rest : List ℕ) (on : c.processes.stack ≡ q ∷ rest) (w : Residual → Residual) (keeps : Keeps w)
      (now : step c ≡ as_outcome (throw_call (past q i there rest on w keeps) q e)) where
    throws_at_self : catches (left_of c i) e ≡ true → MayBeUnwound c q → (d : Config) × UnwindsOnTop c d q (guards_in_try (left_of c i) e)
    throws_at_self caught m =
        let t = record i { residual = w (left_of c i) } in
        let x = past q i there rest on w keeps in
        let top = on_top q i there rest on x refl in
        let at = past_there q i there rest on w keeps in
        let none = past_goalless q i there rest on w keeps m in
        let u = own-throw x q t e at (keeps.tries e (left_of c i) ∙ caught) none top in (
          u.0,
          unwinds_try q i there rest on q m x u.0 refl (now ∙ ap as_outcome (throw_call_top x q e t at (past_lives q i there rest on w keeps m) m.not_below (is-top x q top) none ∙ u.1))
              t e (guards_in_try (left_of c i) e) (keeps.guards e (left_of c i)) u.2,
        )

  -- and that it throws at another
  module _ (e p q : ℕ) (i t : Instance) (there : instance_at c p ≡ Some i) (rest : List ℕ) (on : c.processes.stack ≡ p ∷ rest) (w : Residual → Residual) (keeps : Keeps w)
      (now : step c ≡ as_outcome (throw_call (past p i there rest on w keeps) q e)) (apart : q ≢ p) (at : instance_at c q ≡ Some t) (kind : t.kind ≡ process.Thread) (started : t.started ≡ true) where
    throws_other : catches t.residual e ≡ true → MayBeUnwound c q → (d : Config) × UnwindsOnTop c d q (guards_in_try t.residual e)
    throws_other caught m =
        let x = past p i there rest on w keeps in
        let same = same_Some t m.target (sym at ∙ m.is) in
        let u = other-throw x q t e (another_is p i there rest on w keeps q apart ∙ at) caught (ap (λ (y : Instance). has_goal y.residual) same ∙ m.goalless) (ap (λ (y : Instance). y.ended) same ∙ m.lives) m.not_below (apart_off p q apart c.processes.stack rest on) kind started in
        (u.0, unwinds_try p i there rest on q m x u.0 refl (now ∙ ap as_outcome u.1) t e (guards_in_try t.residual e) refl u.2)

  thrown_is : (e p q : ℕ) (i : Instance) (who : Controlled) (comes : ComesTo c p i (code.throw_it who e false)) → NamesTarget c p i who q → step c ≡ as_outcome (throw_call (past p i comes.at comes.rest comes.top moved_past keeps_past) q e)
  thrown_is e p q i who comes names =
      statement_is p i _ comes ∙ ap as_outcome (on_is (target_of (here (settled_in c p i.residual) p (record i { residual = left_of c i }) (left_of c i)) p who) q _ names)

  pub throw-begins : (e q : ℕ) (r : Residual) → Throws c e q r → catches r e ≡ true → MayBeUnwound c q → (d : Config) × UnwindsOnTop c d q (guards_in_try r e)
  throw-begins e q r (throws q_ i comes) caught m = throws_own e q_ i comes caught m
  throw-begins e q r (throws_at_itself q_ i who comes names) caught m = throws_at_self e q_ i comes.at comes.rest comes.top moved_past keeps_past (thrown_is e q_ q_ i who comes names) caught m
  throw-begins e q r (throws_at_another p q_ i t who comes names apart at kind started) caught m =
      throws_other e p q_ i t comes.at comes.rest comes.top moved_past keeps_past (thrown_is e p q_ i who comes names) apart at kind started caught m
  throw-begins e q r (owed_to_itself q_ i who all owes) caught m = throws_at_self e q_ i owes.at owes.rest owes.top taken_off keeps_taken (owed_is q_ q_ i _ owes) caught m
  throw-begins e q r (owed_to_another p q_ i t who all owes apart at kind started) caught m =
      throws_other e p q_ i t owes.at owes.rest owes.top taken_off keeps_taken (owed_is p q_ i _ owes) apart at kind started caught m
