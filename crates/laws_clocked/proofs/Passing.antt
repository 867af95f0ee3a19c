-- How a thread goes through a tick: its own steps, the steps of others, and takings.
use Rattle.std.proofs.Common.{◌≡◌, ◌≢◌, ◌<◌, ◌≤◌, ◌^◌, ℕ, zero, suc, Bool, true, false, cond, List, [], ◌∷◌, drop, slice_get, Some, None, option_map, refl, sym, ap, ◌∙◌, subst, arith, inl, ⊎_elim, true≢false}
use Rattle.std.specs.Prelude.{⊤, Result, Ok, Err}
use Rattle.std.proofs.lemmas.Option.{none-some, same_Some}
use Rattle.laws_runs.specs.LogicValues.declared.kinds.Value.{Value}
use Rattle.laws_runs.specs.LogicValues.declared.kinds.Value.TheVariants as value
use Rattle.laws_runs.specs.LogicValues.Integers.{difference_of}
use Rattle.laws_runs.specs.FlatDesign.Code as code
use Rattle.laws_runs.specs.FlatDesign.Code.{Arena, Statement, arena_of, statement_at}
use Rattle.laws_runs.specs.FlatDesign.declared.value_types.ValueType.TheVariants as type
use Rattle.laws_runs.specs.FlatDesign.declared.design.Design.{Design}
use Rattle.laws_runs.specs.FlatDesign.declared.faults.RunFault.{RunFault}
use Rattle.laws_runs.specs.FlatDesign.declared.faults.RunFault.TheVariants as fault
use Rattle.laws_runs.specs.SimModel.Values.{on_ok, bits, truth, bool_value, unsigned, cut_to}
use Rattle.laws_runs.specs.SimModel.Residual.{Residual, Frame, skip, seq, followed, statements, block, settle, put, next_of, statement, innermost, in_innermost, has_goal}
use Rattle.laws_runs.specs.SimModel.Unwinding.{catches, raise, left_by_raise}
use Rattle.laws_runs.specs.SimModel.Configuration.{Config, Instance, Processes, waits_statically, no_deadline, arena, instance_at, change_instance, with_residual, with_runnable, with_stack, with_told, turn}
use Rattle.laws_runs.specs.SimModel.Waits.{holds, waits, without}
use Rattle.laws_runs.specs.SimModel.Reading.{here, val}
use Rattle.laws_runs.specs.SimModel.Storing.{passes, with_local, set_local, chosen}
use Rattle.laws_runs.specs.SimModel.Calls.{with_left, with_entry}
use Rattle.laws_runs.specs.SimModel.Control.{begins}
use Rattle.laws_runs.specs.SimModel.Statements.{settled_in, statement_step}
use Rattle.laws_runs.specs.SimModel.Steps.{went, takes, ended, as_outcome, step, step_in, next_command, carry_out, turn_line, instance_taken, taken_if, taking}
use Rattle.laws_runs.specs.SimModel.Clean.{times}
use Rattle.laws_runs.specs.SimModel.declared.plain.Command.{Command}
use Rattle.laws_runs.specs.SimModel.declared.plain.Phase.{Phase}
use Rattle.laws_runs.specs.SimModel.declared.plain.Phase.TheVariants as phase
use Rattle.laws_runs.specs.SimModel.declared.plain.Goal.TheVariants as goal_of
use Rattle.laws_runs.specs.SimModel.declared.plain.Via.{Via}
use Rattle.laws_runs.proofs.Changes.{set-here}
use Rattle.laws_runs.proofs.Times.{times-here}
use Rattle.laws_runs.proofs.RunSteps.{step-moves, taking-moves, takes-empty}
use Rattle.laws_clocked.specs.Spots.{Shows}
use Rattle.laws_clocked.specs.Ticks.{Test, Tick, behind, IsTest, AreTests, HasTick, Spot, left_at, entering, declaring, testing, waiting, checking, IsIn}
use Rattle.laws_clocked.specs.Turns.{ComesTo, IsLeaving, IsNotUnwound}
use Rattle.laws_clocked.specs.Wakes.{WaitsStatically}
use Rattle.laws_clocked.proofs.Going.{GoesTo, goes-next, goes, goes-within, goes-set, goes-set_within, enter-goes, declare-goes, loop-goes, wait-goes, test-goes, throw-goes, lower-goes, next-throw}
use Rattle.laws_clocked.proofs.Counting.{cut-bits, lowered-bits, goes-on, lowered}
use Rattle.laws_clocked.proofs.OwnSteps.{step-top, same-went, not-went, changed-at, changed-twice, carries, chooses, loops-by, assigns}
use Rattle.laws_clocked.proofs.Away.{raise-goal, AwayIn, away-step, away-taking}

-- ---- where a taking comes next

takes_facts : (c : Config) (b : Bool) (ph : Phase) → c.cycle.stopped ≡ b → c.cycle.phase ≡ ph → cond b ended (step_in c ph) ≡ takes → (c.cycle.stopped ≡ false) × (c.cycle.phase ≡ phase.Evaluate)
takes_facts c true ph stopped now is = cc
takes_facts c false phase.Idle stopped now is = absurd (command_takes c.script is)
  where
    not_takes : (m : Result Config RunFault) → as_outcome m ≡ takes → ⊥
    not_takes (Ok d) h = cc
    not_takes (Err f) h = cc

    command_takes : (ks : List Command) → next_command c ks ≡ takes → ⊥
    command_takes [] h = cc
    command_takes (k ∷ ks) h = not_takes (carry_out (record c { script = ks }) k) h
takes_facts c false phase.Start stopped now is = cc
takes_facts c false phase.Evaluate stopped now is = (stopped, now)
takes_facts c false phase.Notify stopped now is = cc
takes_facts c false phase.Timed stopped now is = cc

pub takes-when : (c : Config) → step c ≡ takes → (c.cycle.stopped ≡ false) × (c.cycle.phase ≡ phase.Evaluate)
takes-when c is = takes_facts c c.cycle.stopped c.cycle.phase refl refl is

module _ (p : ℕ) (t : Tick) where
  -- ---- where the thread is in the tick, and how many takings it has before it

  abbrev pub Fits : Arena → Spot → Type 0
  Fits a entering = ⊤
  Fits a declaring = ⊤
  Fits a testing = ⊤
  Fits a waiting = ⊤
  Fits a (checking tests) = AreTests a tests

  abbrev pub Owes : Spot → Value → ℕ → Type 0
  Owes entering v n = n ≡ t.edges
  Owes declaring v n = n ≡ t.edges
  Owes testing v n = (bits v ≡ n) × (n < 2 ^ 32)
  Owes waiting v n = (bits v ≡ n) × (n < 2 ^ 32) × (0 < n)
  Owes (checking tests) v n = (bits v ≡ suc n) × (suc n < 2 ^ 32)

  -- a test held, and its throw comes next
  pub record ThrowsNext (c : Config) (x : Test) (xs : List Test) : Type 0 where
    pub runs : c.cycle.stopped ≡ false
    pub evaluates : c.cycle.phase ≡ phase.Evaluate
    pub rest : List ℕ
    pub top : c.processes.stack ≡ p ∷ rest
    pub instance : Instance
    pub at : instance_at c p ≡ Some instance
    pub shows : Shows (seq (statements (x.throws ∷ behind t xs)) (t.loops ∷ [])) (settle (arena c) instance.residual)

  -- it is off the stack, behind the wait
  pub record IsAway (c : Config) (v : Value) : Type 0 where
    pub instance : Instance
    pub at : instance_at c p ≡ Some instance
    pub begun : instance.started ≡ true
    pub off : times p c.processes.stack ≡ 0
    pub inside : IsIn (arena c) t (checking t.tests) v instance.residual

  pub data State (c : Config) (n : ℕ) : Type 0 where
    comes : (spot : Spot) (v : Value) → Fits (arena c) spot → (ct : ComesTo c p t spot v) → ct.instance.started ≡ true → Owes spot v n → State c n
    throws : (x : Test) (xs : List Test) → IsTest (arena c) x → ThrowsNext c x xs → State c n
    away : (v : Value) → IsAway c v → Owes waiting v n → State c n

  -- it stands on the stack once at most
  once_below : (rest stack : List ℕ) → stack ≡ p ∷ rest → times p stack ≤ 1 → times p (drop 1 stack) ≡ 0
  once_below rest stack top few =
      let here = times-here p rest in
      let on = ap (times p) top in
      let below = ap (λ s. times p (drop 1 s)) top in
      omega (arith, here, on, below, few)

  -- ---- its own steps

  module _ (c : Config) (has : HasTick (arena c) t) where
    abbrev a : Arena
    a = arena c

    module _ (spot : Spot) (v : Value) (ct : ComesTo c p t spot v) (begun : ct.instance.started ≡ true) where
      abbrev i : Instance
      i = ct.instance

      abbrev left : Residual
      left = settle (arena c) i.residual

      abbrev settled : Config
      settled = settled_in c p i.residual

      abbrev frame : Frame
      frame = ct.inside.frame

      to : (d e : Config) → statement_step c p ≡ Ok e → step c ≡ went d → e ≡ d
      to d e is now = same-went e d (sym (step-top c p ct.rest ct.runs ct.evaluates ct.top ∙ ap as_outcome is) ∙ now)

      faults_not : (d : Config) (f : RunFault) → statement_step c p ≡ Err f → step c ≡ went d → ⊥
      faults_not d f is now = not-went d f (sym (step-top c p ct.rest ct.runs ct.evaluates ct.top ∙ ap as_outcome is) ∙ now)

      reached : (d e : Config) (n : ℕ) → statement_step c p ≡ Ok e → step c ≡ went d → State e n → State d n
      reached d e n is now s = subst (λ z. State z n) (to d e is now) s

      -- with this in place
      abbrev pub placed : (new : Residual) (s : ℕ) (next : Spot) → GoesTo a (left_at t spot) new (left_at t next) s → ComesTo (with_residual settled p (put left new)) p t next v
      placed new s next g = record {
        runs = ct.runs;
        evaluates = ct.evaluates;
        rest = ct.rest;
        top = ct.top;
        instance = record i { residual = put left new };
        at = changed-at c p i ct.at (λ j. record j { residual = put left new });
        inside = record {
          shows = goes a (left_at t spot) new (left_at t next) s g left ct.inside.shows;
          frame = frame;
          innermost_is = goes-within a (left_at t spot) new (left_at t next) s g left ct.inside.shows ∙ ct.inside.innermost_is;
          counts = ct.inside.counts;
        };
      }

      -- with the statement past, and the count set
      abbrev set : (w : Value) (s : ℕ) (next : Spot) → GoesTo a (left_at t spot) skip (left_at t next) s → ComesTo (set_local (passes settled p left) p t.local w) p t next w
      set w s next g = record {
        runs = ct.runs;
        evaluates = ct.evaluates;
        rest = ct.rest;
        top = ct.top;
        instance = record i { residual = in_innermost (with_local t.local w) (put left skip) };
        at = changed-twice c p i ct.at (λ j. record j { residual = put left skip }) (λ j. record j { residual = in_innermost (with_local t.local w) j.residual });
        inside = record {
          shows = goes-set a (left_at t spot) skip (left_at t next) s g left ct.inside.shows (with_local t.local w);
          frame = with_local t.local w frame;
          innermost_is = goes-set_within a (left_at t spot) skip (left_at t next) s g left ct.inside.shows (with_local t.local w) ∙ ap (option_map (with_local t.local w)) ct.inside.innermost_is;
          counts = set-here frame.locals t.local v w ct.inside.counts;
        };
      }

      next : (new y : Residual) (s : ℕ) → GoesTo a (left_at t spot) new y s → next_of left ≡ statement s
      next new y s g = goes-next a (left_at t spot) new y s g left ct.inside.shows

    -- the test of a reset, by what it comes to
    module _ (x : Test) (xs : List Test) (is : IsTest a x) (fits : AreTests a xs) (v : Value) (ct : ComesTo c p t (checking (x ∷ xs)) v) (begun : ct.instance.started ≡ true) (n : ℕ) (owes : Owes (checking xs) v n)
        (d : Config) (now : step c ≡ went d) where
      abbrev test_old : Config
      test_old = settled_in c p ct.instance.residual

      abbrev test_body : Residual
      test_body = settle a ct.instance.residual

      test_chooses : statement_step c p ≡ on_ok (val (here test_old p (record ct.instance { residual = test_body }) test_body) x.is_at_level) (λ w. Ok (with_residual test_old p (put test_body (chosen test_old (truth w) x.block None))))
      test_chooses = chooses c p ct.instance ct.at x.test x.block x.is_at_level (next (checking (x ∷ xs)) v ct begun skip (left_at t (checking xs)) x.test (test-goes a t has x xs)) is.tests

      module _ (w : Value) (value_is : val (here test_old p (record ct.instance { residual = test_body }) test_body) x.is_at_level ≡ Ok w) where
        test_steps : (b : Bool) → truth w ≡ b → statement_step c p ≡ Ok (with_residual test_old p (put test_body (chosen test_old b x.block None)))
        test_steps b is_b =
            test_chooses
            ∙ ap (λ (m : Result Value RunFault). on_ok m (λ u. Ok (with_residual test_old p (put test_body (chosen test_old (truth u) x.block None))))) value_is
            ∙ ap (λ z. Ok (with_residual test_old p (put test_body (chosen test_old z x.block None)))) is_b

        test_answers : (b : Bool) → truth w ≡ b → State d n
        test_answers true is_b =
            reached (checking (x ∷ xs)) v ct begun d (with_residual test_old p (put test_body (block a x.block))) n (test_steps true is_b) now
            (throws x xs is (record {
              runs = ct.runs;
              evaluates = ct.evaluates;
              rest = ct.rest;
              top = ct.top;
              instance = record ct.instance { residual = put test_body (block a x.block) };
              at = changed-at c p ct.instance ct.at (λ j. record j { residual = put test_body (block a x.block) });
              shows = goes a (left_at t (checking (x ∷ xs))) (block a x.block) (seq (statements (x.throws ∷ behind t xs)) (t.loops ∷ [])) x.test (throw-goes a t has x xs is) test_body ct.inside.shows;
            }))
        test_answers false is_b =
            reached (checking (x ∷ xs)) v ct begun d (with_residual test_old p (put test_body skip)) n (test_steps false is_b) now
            (comes (checking xs) v fits (placed (checking (x ∷ xs)) v ct begun skip x.test (checking xs) (test-goes a t has x xs)) begun owes)

      tested : (m : Result Value RunFault) → val (here test_old p (record ct.instance { residual = test_body }) test_body) x.is_at_level ≡ m → State d n
      tested (Err f) value_is =
          absurd (faults_not (checking (x ∷ xs)) v ct begun d f
          (test_chooses ∙ ap (λ (m : Result Value RunFault). on_ok m (λ w. Ok (with_residual test_old p (put test_body (chosen test_old (truth w) x.block None))))) value_is) now)
      tested (Ok w) value_is = test_answers w value_is (truth w) refl

    more_or : (v : Value) (ct : ComesTo c p t testing v) → (IsLeaving c p t → ⊥) → (n : ℕ) → bits v ≡ n → 0 < n
    more_or v ct not zero is = absurd (not (record { count = v; comes = ct; used_up = is }))
    more_or v ct not (suc n) is = omega arith

    own_step : (spot : Spot) (v : Value) → Fits a spot → (ct : ComesTo c p t spot v) → (begun : ct.instance.started ≡ true) → (n : ℕ) → Owes spot v n → (IsLeaving c p t → ⊥) → times p c.processes.stack ≤ 1
        → (d : Config) → step c ≡ went d → State d n
    own_step entering v fits ct begun n owes not few d now =
        let body = settle a ct.instance.residual in
        let old = settled_in c p ct.instance.residual in
        let g = enter-goes a t has in
        reached entering v ct begun d (with_residual old p (put body (block a t.inside))) n
        (chooses c p ct.instance ct.at t.whole t.inside (code.literal (value.Bool true)) (next entering v ct begun (block a t.inside) (left_at t declaring) t.whole g) has.whole) now
        (comes declaring v tt (placed entering v ct begun (block a t.inside) t.whole declaring g) begun owes)
    own_step declaring v fits ct begun n owes not few d now =
        let body = settle a ct.instance.residual in
        let old = settled_in c p ct.instance.residual in
        let g = declare-goes a t has in
        let w = cut_to (type.Uint 32) has.first in
        let same = has.edges in
        let small = has.fits in
        reached declaring v ct begun d (set_local (passes old p body) p t.local w) n
        (carries c p ct.instance ct.at t.declares (code.var t.local (type.Uint 32) (Some (code.literal has.first))) (next declaring v ct begun skip (left_at t testing) t.declares g) has.declares) now
        (comes testing w tt (set declaring v ct begun w t.declares testing g) begun
        (cut-bits has.first (subst (λ k. k < 2 ^ 32) (sym has.edges) has.fits) ∙ has.edges ∙ sym owes, subst (λ k. k < 2 ^ 32) (sym owes) has.fits))
    own_step testing v fits ct begun n owes not few d now =
        let body = settle a ct.instance.residual in
        let old = settled_in c p ct.instance.residual in
        let g = loop-goes a t has in
        let more = more_or v ct not (bits v) refl in
        reached testing v ct begun d (with_residual old p (put body (followed (block a t.round) (t.loops ∷ [])))) n
        (loops-by c p ct.instance ct.at t.loops t.round _ (next testing v ct begun (followed (block a t.round) (t.loops ∷ [])) (left_at t waiting) t.loops g) has.loops (bool_value true)
        (goes-on old p (record ct.instance { residual = body }) body t ct.inside.frame v ct.inside.innermost_is ct.inside.counts has.zero_width has.zero has.is_zero more)) now
        (comes waiting v tt (placed testing v ct begun (followed (block a t.round) (t.loops ∷ [])) t.loops waiting g) begun (owes.0, owes.1, subst (λ k. 0 < k) owes.0 more))
    own_step waiting v fits ct begun n owes not few d now =
        let body = settle a ct.instance.residual in
        let old = settled_in c p ct.instance.residual in
        let g = wait-goes a t has in
        let there = placed waiting v ct begun skip t.waits (checking t.tests) g in
        reached waiting v ct begun d (waits (passes old p body) p waits_statically no_deadline) n
        (carries c p ct.instance ct.at t.waits (code.wait code.static) (next waiting v ct begun skip (left_at t (checking t.tests)) t.waits g) has.waits) now
        (away v (record {
          instance = record ct.instance { residual = put body skip; wait = waits_statically; deadline = no_deadline };
          at = changed-twice c p ct.instance ct.at (λ j. record j { residual = put body skip }) (λ j. record j { wait = waits_statically; deadline = no_deadline });
          begun = begun;
          off = once_below ct.rest c.processes.stack ct.top few;
          inside = there.inside;
        }) owes)
    own_step (checking []) v fits ct begun n owes not few d now =
        let body = settle a ct.instance.residual in
        let old = settled_in c p ct.instance.residual in
        let g = lower-goes a t has in
        let w = cut_to (type.Uint 32) (unsigned (difference_of (bits v) (bits has.unit))) in
        let is = owes.0 in
        let small = owes.1 in
        reached (checking []) v ct begun d (set_local (passes old p body) p t.local w) n
        (assigns c p ct.instance ct.at t.lowers _ _ (next (checking []) v ct begun skip (left_at t testing) t.lowers g) has.lowers (unsigned (difference_of (bits v) (bits has.unit)))
        (lowered old p (record ct.instance { residual = body }) body t ct.inside.frame v ct.inside.innermost_is ct.inside.counts has.one_width has.unit)) now
        (comes testing w tt (set (checking []) v ct begun w t.lowers testing g) begun
        (lowered-bits (bits v) n (bits has.unit) owes.0 has.is_one (subst (λ k. k < 2 ^ 32) (sym owes.0) owes.1), omega (arith, small)))
    own_step (checking (x ∷ xs)) v fits ct begun n owes not few d now = tested x xs fits.0 fits.1 v ct begun n owes d now _ refl

    -- where its own step takes it off the stack, that is the wait
    on_stack : (rest stack : List ℕ) → stack ≡ p ∷ rest → times p stack ≡ 0 → ⊥
    on_stack rest stack top off =
        let here = times-here p rest in
        let is = ap (times p) top in
        omega (arith, here, is, off)

    module _ (spot : Spot) (v : Value) (ct : ComesTo c p t spot v) (begun : ct.instance.started ≡ true) where
      stays_on : (d e : Config) → statement_step c p ≡ Ok e → step c ≡ went d → e.processes.stack ≡ c.processes.stack → times p d.processes.stack ≡ 0 → ⊥
      stays_on d e is now same off = on_stack ct.rest d.processes.stack (ap (λ (x : Config). x.processes.stack) (sym (to spot v ct begun d e is now)) ∙ same ∙ ct.top) off

    tested_off : (x : Test) (xs : List Test) (is : IsTest a x) (v : Value) (ct : ComesTo c p t (checking (x ∷ xs)) v) → ct.instance.started ≡ true → (d : Config) → step c ≡ went d → times p d.processes.stack ≡ 0
        → (m : Result Value RunFault) → val (here (settled_in c p ct.instance.residual) p (record ct.instance { residual = settle a ct.instance.residual }) (settle a ct.instance.residual)) x.is_at_level ≡ m → ⊥
    tested_off x xs is v ct begun d now off (Err f) value_is =
        faults_not (checking (x ∷ xs)) v ct begun d f
        (chooses c p ct.instance ct.at x.test x.block x.is_at_level (next (checking (x ∷ xs)) v ct begun skip (left_at t (checking xs)) x.test (test-goes a t has x xs)) is.tests
        ∙ ap (λ (m : Result Value RunFault). on_ok m (λ w. Ok (with_residual (settled_in c p ct.instance.residual) p (put (settle a ct.instance.residual) (chosen (settled_in c p ct.instance.residual) (truth w) x.block None))))) value_is) now
    tested_off x xs is v ct begun d now off (Ok w) value_is =
        stays_on (checking (x ∷ xs)) v ct begun d (with_residual (settled_in c p ct.instance.residual) p (put (settle a ct.instance.residual) (chosen (settled_in c p ct.instance.residual) (truth w) x.block None)))
        (chooses c p ct.instance ct.at x.test x.block x.is_at_level (next (checking (x ∷ xs)) v ct begun skip (left_at t (checking xs)) x.test (test-goes a t has x xs)) is.tests
        ∙ ap (λ (m : Result Value RunFault). on_ok m (λ w. Ok (with_residual (settled_in c p ct.instance.residual) p (put (settle a ct.instance.residual) (chosen (settled_in c p ct.instance.residual) (truth w) x.block None))))) value_is) now refl off

    pub own-off : (spot : Spot) (v : Value) → Fits a spot → (ct : ComesTo c p t spot v) → ct.instance.started ≡ true → (IsLeaving c p t → ⊥) → (d : Config) → step c ≡ went d → times p d.processes.stack ≡ 0 → WaitsStatically d p
    own-off entering v fits ct begun not d now off =
        let body = settle a ct.instance.residual in
        let old = settled_in c p ct.instance.residual in
        absurd (stays_on entering v ct begun d (with_residual old p (put body (block a t.inside)))
        (chooses c p ct.instance ct.at t.whole t.inside (code.literal (value.Bool true)) (next entering v ct begun (block a t.inside) (left_at t declaring) t.whole (enter-goes a t has)) has.whole) now refl off)
    own-off declaring v fits ct begun not d now off =
        let body = settle a ct.instance.residual in
        let old = settled_in c p ct.instance.residual in
        absurd (stays_on declaring v ct begun d (set_local (passes old p body) p t.local (cut_to (type.Uint 32) has.first))
        (carries c p ct.instance ct.at t.declares (code.var t.local (type.Uint 32) (Some (code.literal has.first))) (next declaring v ct begun skip (left_at t testing) t.declares (declare-goes a t has)) has.declares) now refl off)
    own-off testing v fits ct begun not d now off =
        let body = settle a ct.instance.residual in
        let old = settled_in c p ct.instance.residual in
        let more = more_or v ct not (bits v) refl in
        absurd (stays_on testing v ct begun d (with_residual old p (put body (followed (block a t.round) (t.loops ∷ []))))
        (loops-by c p ct.instance ct.at t.loops t.round _ (next testing v ct begun (followed (block a t.round) (t.loops ∷ [])) (left_at t waiting) t.loops (loop-goes a t has)) has.loops (bool_value true)
        (goes-on old p (record ct.instance { residual = body }) body t ct.inside.frame v ct.inside.innermost_is ct.inside.counts has.zero_width has.zero has.is_zero more)) now refl off)
    own-off waiting v fits ct begun not d now off =
        let body = settle a ct.instance.residual in
        let old = settled_in c p ct.instance.residual in
        subst (λ z. WaitsStatically z p)
        (to waiting v ct begun d (waits (passes old p body) p waits_statically no_deadline) (carries c p ct.instance ct.at t.waits (code.wait code.static) (next waiting v ct begun skip (left_at t (checking t.tests)) t.waits (wait-goes a t has)) has.waits) now)
        (record {
          instance = record ct.instance { residual = put body skip; wait = waits_statically; deadline = no_deadline };
          at = changed-twice c p ct.instance ct.at (λ j. record j { residual = put body skip }) (λ j. record j { wait = waits_statically; deadline = no_deadline });
          waits = refl;
          never = refl;
        })
    own-off (checking []) v fits ct begun not d now off =
        let body = settle a ct.instance.residual in
        let old = settled_in c p ct.instance.residual in
        let w = cut_to (type.Uint 32) (unsigned (difference_of (bits v) (bits has.unit))) in
        absurd (stays_on (checking []) v ct begun d (set_local (passes old p body) p t.local w)
        (assigns c p ct.instance ct.at t.lowers _ _ (next (checking []) v ct begun skip (left_at t testing) t.lowers (lower-goes a t has)) has.lowers (unsigned (difference_of (bits v) (bits has.unit)))
        (lowered old p (record ct.instance { residual = body }) body t ct.inside.frame v ct.inside.innermost_is ct.inside.counts has.one_width has.unit)) now refl off)
    own-off (checking (x ∷ xs)) v fits ct begun not d now off = absurd (tested_off x xs fits.0 v ct begun d now off _ refl)

    -- a throw begins an unwinding
    left_processes : (vias : List Via) (x : Config) → (with_left x vias).processes ≡ x.processes
    left_processes [] x = refl
    left_processes (via ∷ more) x = left_processes more (with_entry x via.hop _)

    module _ (x : Test) (xs : List Test) (is : IsTest a x) (n : ThrowsNext c x xs) where
      abbrev throw_body : Residual
      throw_body = settle a n.instance.residual

      abbrev throw_old : Config
      throw_old = settled_in c p n.instance.residual

      abbrev throw_new : Residual
      throw_new = raise a throw_body x.exception goal_of.Thrown

      abbrev throw_then : Config
      throw_then = with_left (with_residual throw_old p throw_new) (left_by_raise throw_body x.exception)

      throw_steps : statement_step c p ≡ cond (catches throw_body x.exception) (Ok throw_then) (Err (fault.Uncaught x.exception))
      throw_steps = carries c p n.instance n.at x.throws (code.throw x.exception) (next-throw a t has x xs throw_body n.shows) is.throw

      module _ (d : Config) (now : step c ≡ went d) (free : IsNotUnwound d p) where
        throw_to : (m : Result Config RunFault) → statement_step c p ≡ m → as_outcome m ≡ went d
        throw_to m e = ap as_outcome (sym e) ∙ sym (step-top c p n.rest n.runs n.evaluates n.top) ∙ now

        throw_by : (b : Bool) → catches throw_body x.exception ≡ b → ⊥
        throw_by false e = not-went d (fault.Uncaught x.exception) (throw_to (Err (fault.Uncaught x.exception)) (throw_steps ∙ ap (λ b. cond b (Ok throw_then) (Err (fault.Uncaught x.exception))) e))
        throw_by true e =
            let same = same-went throw_then d (throw_to (Ok throw_then) (throw_steps ∙ ap (λ b. cond b (Ok throw_then) (Err (fault.Uncaught x.exception))) e)) in
            let there : instance_at throw_then p ≡ Some (record n.instance { residual = throw_new }) =
            ap (λ (ps : Processes). slice_get ps.instances p) (left_processes (left_by_raise throw_body x.exception) (with_residual throw_old p throw_new)) ∙ changed-at c p n.instance n.at (λ j. record j { residual = throw_new }) in
            let is_one = same_Some (record n.instance { residual = throw_new }) free.instance (sym there ∙ ap (λ z. instance_at z p) same ∙ free.at) in
            true≢false (sym (raise-goal a x.exception goal_of.Thrown throw_body e) ∙ ap (λ (j : Instance). has_goal j.residual) is_one ∙ free.goalless)

    pub throw-step : (x : Test) (xs : List Test) → IsTest a x → ThrowsNext c x xs → (d : Config) → step c ≡ went d → IsNotUnwound d p → ⊥
    throw-step x xs is n d now free = throw_by x xs is n d now free (catches (settle a n.instance.residual) x.exception) refl

    -- ---- the steps of others, and the takings of others

    still_away : (v : Value) (w : IsAway c v) (d : Config) (n : ℕ) → Owes waiting v n → AwayIn p c.design w.instance.residual d.design d.processes.instances d.processes.stack → IsNotUnwound d p → State d n
    still_away v w d n owes h free = ⊎_elim
        (λ off. away v (record {
          instance = h.instance;
          at = h.at;
          begun = h.begun;
          off = off.1;
          inside = subst (λ (z : Design). IsIn (arena_of z.code) t (checking t.tests) v h.instance.residual) (sym h.same) (subst (IsIn a t (checking t.tests) v) (sym off.0) w.inside);
        }) owes)
        (λ g. absurd (true≢false (sym g ∙ ap (λ (j : Instance). has_goal j.residual) (same_Some h.instance free.instance (sym h.at ∙ free.at)) ∙ free.goalless)))
        h.how

    from_away : (v : Value) (w : IsAway c v) → AwayIn p c.design w.instance.residual c.design c.processes.instances c.processes.stack
    from_away v w = record { same = refl; instance = w.instance; at = w.at; begun = w.begun; how = inl (refl, w.off) }

    -- ---- any step

    pub state-went : (n : ℕ) → State c n → (IsLeaving c p t → ⊥) → times p c.processes.stack ≤ 1 → (d : Config) → step c ≡ went d → IsNotUnwound d p → State d n
    state-went n (comes spot v fits ct begun owes) not few d now free = own_step spot v fits ct begun n owes not few d now
    state-went n (throws x xs is w) not few d now free = absurd (throw-step x xs is w d now free)
    state-went n (away v w owes) not few d now free =
        still_away v w d n owes (away-step p c.design w.instance.residual c d w.off (step-moves c d now) (from_away v w)) free

    -- ---- takings

    not_empty : (rest stack : List ℕ) → stack ≡ p ∷ rest → stack ≡ [] → ⊥
    not_empty rest stack one_ two = cc

    pub state-taken : (n : ℕ) → State c n → step c ≡ takes → (q : ℕ) (d : Config) → taking c q ≡ Some d → p ≢ q → IsNotUnwound d p → State d n
    state-taken n (comes spot v fits ct begun owes) now q d to_ apart free = absurd (not_empty ct.rest c.processes.stack ct.top (takes-empty c now))
    state-taken n (throws x xs is w) now q d to_ apart free = absurd (not_empty w.rest c.processes.stack w.top (takes-empty c now))
    state-taken n (away v w owes) now q d to_ apart free = still_away v w d n owes (away-taking p c.design w.instance.residual c d q apart (taking-moves c d q now to_) (from_away v w)) free

    -- its own taking: it is on top of the stack again, behind the wait
    abbrev pub alone : Instance → Config
    alone i = with_told (with_stack (with_runnable c (without c.processes.runnable p)) (p ∷ [])) (turn (turn_line c.cycle.now i.path p))

    taken_as : (i : Instance) → instance_at c p ≡ Some i → i.started ≡ true → (b : Bool) (d : Config) → taken_if c p b ≡ Some d → alone i ≡ d
    taken_as i at began false d is = absurd (none-some d is)
    taken_as i at began true d is =
        sym (ap (instance_taken c p) at ∙ ap (λ b. cond b (alone i) (begins (change_instance (alone i) p (λ j. record j { trigger = None })) p i)) began) ∙ same_Some (instance_taken c p (instance_at c p)) d is

    pub taken-is : (i : Instance) → instance_at c p ≡ Some i → i.started ≡ true → (d : Config) → taking c p ≡ Some d → alone i ≡ d
    taken-is i at began d is = taken_as i at began (holds c.processes.runnable p) d is

    abbrev pub comes-taken : (v : Value) (w : IsAway c v) → step c ≡ takes → ComesTo (alone w.instance) p t (checking t.tests) v
    comes-taken v w now =
        let facts = takes-when c now in
        record { runs = facts.0; evaluates = facts.1; rest = []; top = refl; instance = w.instance; at = w.at; inside = w.inside }

    owes_less : (v : Value) (n : ℕ) → Owes waiting v n → (k : ℕ) × (n ≡ suc k) × Owes (checking t.tests) v k
    owes_less v zero owes = let more = owes.2 in absurd (omega (arith, more))
    owes_less v (suc k) owes = (k, refl, (owes.0, owes.1))

    pub state-own_taken : (n : ℕ) → State c n → step c ≡ takes → (d : Config) → taking c p ≡ Some d → (k : ℕ) × (n ≡ suc k) × State d k
    state-own_taken n (comes spot v fits ct begun owes) now d to_ = absurd (not_empty ct.rest c.processes.stack ct.top (takes-empty c now))
    state-own_taken n (throws x xs is w) now d to_ = absurd (not_empty w.rest c.processes.stack w.top (takes-empty c now))
    state-own_taken n (away v w owes) now d to_ =
        let less = owes_less v n owes in
        (less.0, less.1, subst (λ z. State z less.0) (taken-is w.instance w.at w.begun d to_) (comes (checking t.tests) v has.tests (comes-taken v w now) w.begun less.2))

    -- ---- where it is left, it has no taking before it

    same_statement : (k m : ℕ) → statement k ≡ statement m → k ≡ m
    same_statement k m e = cc

    module _ (leaves : IsLeaving c p t) where
      abbrev there : ComesTo c p t testing leaves.count
      there = leaves.comes

      -- the statement that comes next is the loop
      other_statement : (i : Instance) → instance_at c p ≡ Some i → (s : ℕ) (x : Statement) → next_of (settle a i.residual) ≡ statement s → statement_at a s ≡ Some x → Some x ≡ statement_at a t.loops
      other_statement i at s x next_is found =
          let same = same_Some i there.instance (sym at ∙ there.at) in
          sym found ∙ ap (statement_at a)
          (same_statement s t.loops (sym next_is ∙ ap (λ (j : Instance). next_of (settle a j.residual)) same ∙ goes-next a (left_at t testing) (followed (block a t.round) (t.loops ∷ [])) (left_at t waiting) t.loops (loop-goes a t has) (settle a there.instance.residual) there.inside.shows))

      pub left-not_at_test : (x : Test) (xs : List Test) → IsTest a x → (v : Value) (ct : ComesTo c p t (checking (x ∷ xs)) v) → ct.instance.started ≡ true → ⊥
      left-not_at_test x xs is v ct begun =
          let e = other_statement ct.instance ct.at x.test _ (next (checking (x ∷ xs)) v ct begun skip (left_at t (checking xs)) x.test (test-goes a t has x xs)) is.tests ∙ has.loops in cc

      pub left-not_at_throw : (x : Test) (xs : List Test) → IsTest a x → ThrowsNext c x xs → ⊥
      left-not_at_throw x xs is w =
          let e = other_statement w.instance w.at x.throws _ (next-throw a t has x xs (settle a w.instance.residual) w.shows) is.throw ∙ has.loops in cc

      owes_none : (spot : Spot) (v : Value) → Fits a spot → (ct : ComesTo c p t spot v) → (begun : ct.instance.started ≡ true) → (n : ℕ) → Owes spot v n → n ≡ 0
      owes_none entering v fits ct begun n owes =
          let e = other_statement ct.instance ct.at t.whole _ (next entering v ct begun (block a t.inside) (left_at t declaring) t.whole (enter-goes a t has)) has.whole ∙ has.loops in cc
      owes_none declaring v fits ct begun n owes =
          let e = other_statement ct.instance ct.at t.declares _ (next declaring v ct begun skip (left_at t testing) t.declares (declare-goes a t has)) has.declares ∙ has.loops in cc
      owes_none testing v fits ct begun n owes = sym owes.0 ∙ ap bits same_count ∙ leaves.used_up
        where
          same_instance : ct.instance ≡ there.instance
          same_instance = same_Some ct.instance there.instance (sym ct.at ∙ there.at)

          same_frame : ct.inside.frame ≡ there.inside.frame
          same_frame = same_Some ct.inside.frame there.inside.frame (sym ct.inside.innermost_is ∙ ap (λ (j : Instance). innermost (settle a j.residual)) same_instance ∙ there.inside.innermost_is)

          same_count : v ≡ leaves.count
          same_count = same_Some v leaves.count (sym ct.inside.counts ∙ ap (λ (f : Frame). slice_get f.locals t.local) same_frame ∙ there.inside.counts)
      owes_none waiting v fits ct begun n owes =
          let e = other_statement ct.instance ct.at t.waits _ (next waiting v ct begun skip (left_at t (checking t.tests)) t.waits (wait-goes a t has)) has.waits ∙ has.loops in cc
      owes_none (checking []) v fits ct begun n owes =
          let e = other_statement ct.instance ct.at t.lowers _ (next (checking []) v ct begun skip (left_at t testing) t.lowers (lower-goes a t has)) has.lowers ∙ has.loops in cc
      owes_none (checking (x ∷ xs)) v fits ct begun n owes = absurd (left-not_at_test x xs fits.0 v ct begun)

      pub left-none : (n : ℕ) → State c n → n ≡ 0
      left-none n (comes spot v fits ct begun owes) = owes_none spot v fits ct begun n owes
      left-none n (throws x xs is w) = absurd (left-not_at_throw x xs is w)
      left-none n (away v w owes) =
          let on = ap (times p) there.top ∙ times-here p there.rest in
          let off = w.off in
          absurd (omega (arith, on, off))
