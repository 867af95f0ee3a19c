-- Behind the taking of a thread out of a tick's wait at which a reset is at its level, be it with guards around the tick, its own
-- statements begin again before it leaves the stack.
use Rattle.std.proofs.Common.{◌≡◌, ℕ, true, false, List, [], ◌∷◌, ◌++◌, slice_get, Some, refl, sym, ap, ◌∙◌, subst}
use Rattle.std.specs.Prelude.{Ok}
use Rattle.std.proofs.lemmas.Option.{same_Some}
use Rattle.laws_runs.specs.LogicValues.declared.kinds.Value.{Value}
use Rattle.laws_runs.specs.FlatDesign.Code as code
use Rattle.laws_runs.specs.FlatDesign.Sound.{SoundDesign}
use Rattle.laws_runs.specs.FlatDesign.declared.design.Design.{Design}
use Rattle.laws_runs.specs.SimModel.Values.{truth}
use Rattle.laws_runs.specs.SimModel.Residual.{Residual, Frame, skip, seq, statements, block, settle, put}
use Rattle.laws_runs.specs.SimModel.Unwinding.{catches}
use Rattle.laws_runs.specs.SimModel.Configuration.{Config, Instance, arena, instance_at, with_residual}
use Rattle.laws_runs.specs.SimModel.Reading.{here, val}
use Rattle.laws_runs.specs.SimModel.Statements.{settled_in}
use Rattle.laws_runs.specs.SimModel.Steps.{went, takes, step, taking}
use Rattle.laws_runs.specs.SimModel.Clean.{times}
use Rattle.laws_runs.specs.SimModel.declared.plain.Command.{Command}
use Rattle.laws_runs.proofs.MarkedRuns.{marked-after}
use Rattle.laws_runs.proofs.RunSteps.{takes-empty}
use Rattle.laws_clocked.specs.Spots.{IsLeft, Shows}
use Rattle.laws_clocked.specs.Ticks.{Test, Tick, behind, IsTest, AreTests, HasTick, left_at, checking}
use Rattle.laws_clocked.specs.Turns.{ComesTo, IsBehindWait}
use Rattle.laws_clocked.specs.Levels.{IsNotAtLevel, NoneAtLevel, IsAtLevel}
use Rattle.laws_clocked.specs.Again.{Around, trying, StandsAt, BeginsFirst}
use Rattle.laws_clocked.proofs.Showing.{shows-left}
use Rattle.laws_clocked.proofs.Going.{GoesTo, test-goes, throw-goes, next-throw}
use Rattle.laws_clocked.proofs.OwnSteps.{changed-at}
use Rattle.laws_clocked.proofs.Passing.{IsAway, placed, alone, taken-is, comes-taken}
use Rattle.laws_clocked.proofs.Ticking.{IsReached, reached-went, reached-taken, unbegun}
use Rattle.laws_clocked.proofs.Levels.{Near}
use Rattle.laws_clocked.proofs.Throwing.{asked, next_near, goalless}
use Rattle.laws_clocked.proofs.Plain.{none-catches, put-trying}
use Rattle.laws_clocked.proofs.Counts.{count-behind}
use Rattle.laws_clocked.proofs.Uncaught.{Uncaught, uncaught-by, uncaught-shows, uncaught-goes, uncaught-catches, shows-in_try}
use Rattle.laws_clocked.proofs.Returning.{InCode, in-code_went, on-top, always-went, always-thrown}

module _ (design : Design) (script : List Command) (sound : SoundDesign design) (p : ℕ) (t : Tick) where
  module _ (x0 : Config) (i0 : Instance) (at0 : instance_at x0 p ≡ Some i0) (b : Around) (e : ℕ) (f : Frame) (u : Value) (asks : slice_get f.locals b.again ≡ Some u) (is_true : truth u ≡ true) where
    -- the code has the thread's loop
    abbrev HasCode : Config → Type 0
    HasCode y = InCode p b design script sound u is_true e f.body (arena y)

    -- inside the try
    record Within (y : Config) (i : Instance) (ts : List Test) : Type 0 where
      inner : Residual
      left : settle (arena y) i.residual ≡ trying b f inner
      stays : Uncaught e (left_at t (checking ts)) inner

    module _ (x : Test) (xs : List Test) (y : Config) (v : Value) (ct : ComesTo y p t (checking (x ∷ xs)) v) (has : HasTick (arena y) t) (is : IsTest (arena y) x) (near : Near p t x0 i0 at0 y ct.instance)
        (r : IsReached design script y) (around : HasCode y) (in_ : Within y ct.instance (x ∷ xs)) where
      abbrev body : Residual
      body = settle (arena y) ct.instance.residual

      abbrev old : Config
      old = settled_in y p ct.instance.residual

      abbrev with_ : Residual → Config
      with_ n = with_residual old p (put body n)

      -- what comes of the test, in the place of its statement
      stands : (n z : Residual) → GoesTo (arena y) (left_at t (checking (x ∷ xs))) n z x.test → IsLeft z → settle (arena y) (put body n) ≡ trying b f (settle (arena y) (put in_.inner n))
      stands n z g l =
          ap (λ q. settle (arena y) (put q n)) in_.left
          ∙ put-trying (arena y) b f in_.inner n (shows-left z (settle (arena y) (put in_.inner n)) (uncaught-shows e z (settle (arena y) (put in_.inner n)) (uncaught-goes e (arena y) (left_at t (checking (x ∷ xs))) n z x.test g in_.inner in_.stays)) l)

      held : x.exception ≡ e → IsAtLevel x0 p x → BeginsFirst y p b
      held same level =
          let n = block (arena y) x.block in
          let z = seq (statements (x.throws ∷ behind t xs)) (t.loops ∷ []) in
          let g = throw-goes (arena y) t has x xs is in
          let d = with_ n in
          let now = asked p t x0 i0 at0 x xs y v ct has is near level.answer
          (subst (λ (j : Instance). val (here x0 p j (settle (arena x0) j.residual)) x.is_at_level ≡ Ok level.answer) (same_Some level.instance i0 (sym level.at ∙ at0)) level.is) true level.says in
          let inner = settle (arena y) (put in_.inner n) in
          let stays = uncaught-goes e (arena y) (left_at t (checking (x ∷ xs))) n z x.test g in_.inner in_.stays in
          let h : StandsAt d p ct.rest (trying b f inner) = record {
            runs = ct.runs;
            evaluates = ct.evaluates;
            top = ct.top;
            instance = record ct.instance { residual = put body n };
            at = changed-at y p ct.instance ct.at (λ j. record j { residual = put body n });
            left = stands n z g tt;
          } in
          always-went p b y d (on-top p b ct.rest y ct.top) now
          (always-thrown p b design script sound u is_true e f.body d (reached-went design script y d r now) (in-code_went p b design script sound u is_true e f.body y d now around) ct.rest f inner h x.throws
          (next-throw (arena y) t has x xs inner (uncaught-shows e z inner stays)) (is.throw ∙ ap (λ k. Some (code.throw k)) same)
          (uncaught-catches e z inner stays (none-catches e x.throws (behind t xs) (t.loops ∷ []))) (asks, refl))

      next_within : Within (with_ skip) (record ct.instance { residual = put body skip }) xs
      next_within =
          let g = test-goes (arena y) t has x xs in
          record {
            inner = settle (arena y) (put in_.inner skip);
            left = stands skip (left_at t (checking xs)) g tt;
            stays = uncaught-goes e (arena y) (left_at t (checking (x ∷ xs))) skip (left_at t (checking xs)) x.test g in_.inner in_.stays;
          }

      passed : IsNotAtLevel x0 p x → step y ≡ went (with_ skip)
      passed level =
          asked p t x0 i0 at0 x xs y v ct has is near level.answer
          (subst (λ (j : Instance). val (here x0 p j (settle (arena x0) j.residual)) x.is_at_level ≡ Ok level.answer) (same_Some level.instance i0 (sym level.at ∙ at0)) level.is) false level.says

      passes_on : IsNotAtLevel x0 p x → BeginsFirst (with_ skip) p b → BeginsFirst y p b
      passes_on level later = always-went p b y (with_ skip) (on-top p b ct.rest y ct.top) (passed level) later

    walk : (xs : List Test) (z : Test) (zs : List Test) → z.exception ≡ e → (y : Config) (v : Value) (ct : ComesTo y p t (checking (xs ++ z ∷ zs)) v) → HasTick (arena y) t → AreTests (arena y) (xs ++ z ∷ zs) → Near p t x0 i0 at0 y ct.instance → ct.instance.started ≡ true
        → IsReached design script y → HasCode y → Within y ct.instance (xs ++ z ∷ zs) → NoneAtLevel x0 p xs → IsAtLevel x0 p z → BeginsFirst y p b
    walk [] z zs same y v ct has fits near began r around in_ none level = held z zs y v ct has fits.0 near r around in_ same level
    walk (x ∷ xs) z zs same y v ct has fits near began r around in_ none level =
        let n = with_residual (settled_in y p ct.instance.residual) p (put (settle (arena y) ct.instance.residual) skip) in
        let now = passed x (xs ++ z ∷ zs) y v ct has fits.0 near r around in_ none.0 in
        passes_on x (xs ++ z ∷ zs) y v ct has fits.0 near r around in_ none.0
        (walk xs z zs same n v
        (placed p t y has (checking (x ∷ (xs ++ z ∷ zs))) v ct began skip x.test (checking (xs ++ z ∷ zs)) (test-goes (arena y) t has x (xs ++ z ∷ zs))) has fits.1
        (next_near p t x0 i0 at0 x (xs ++ z ∷ zs) y v ct has fits.0 near) began (reached-went design script y n r now) around (next_within x (xs ++ z ∷ zs) y v ct has fits.0 near r around in_) none.1 level)

  pub begins-first_at : (x : Config) → (r : IsReached design script x) → HasTick (arena x) t → (w : IsBehindWait x p t) → step x ≡ takes → (d : Config) → taking x p ≡ Some d
      → (xs : List Test) (z : Test) (zs : List Test) → t.tests ≡ xs ++ z ∷ zs → NoneAtLevel x p xs → IsAtLevel x p z
      → (b : Around) (f : Frame) (q : Residual) (u : Value) (asks : slice_get f.locals b.again ≡ Some u) (is_true : truth u ≡ true) → InCode p b design script sound u is_true z.exception f.body (arena x)
      → settle (arena x) w.instance.residual ≡ trying b f q → catches q z.exception ≡ false → BeginsFirst d p b
  begins-first_at x r has w now d to xs z zs split none level b f q u asks is_true around left uncaught =
      let count = count-behind design script sound r.steps r.choices x r.reached p t has w in
      let X = left_at t (checking t.tests) in
      let began = unbegun design script sound p t X tt (goalless design script sound p t (behind t t.tests)) (arena x) w.instance.started w.instance.residual
      ((marked-after design script sound r.steps r.choices x r.reached).rooted p w.instance w.at) w.shows in
      let off : IsAway p t x count.0 = record { instance = w.instance; at = w.at; begun = began; off = ap (times p) (takes-empty x now); inside = count.1 } in
      let first = alone p t x has w.instance in
      let taken = taken-is p t x has w.instance w.at began d to in
      let stays = uncaught-by z.exception X q (shows-in_try (behind t t.tests) (t.loops ∷ []) b f q (subst (λ y. Shows X y) left w.shows)) uncaught in
      subst (λ y. BeginsFirst y p b) taken
      (subst (λ (ts : List Test). (ct : ComesTo first p t (checking ts) count.0) → AreTests (arena x) ts → Near p t x w.instance w.at first ct.instance → ct.instance.started ≡ true → Within x w.instance w.at b z.exception f u asks is_true first ct.instance ts → BeginsFirst first p b)
      (sym split)
      (λ ct fits near started in_. walk x w.instance w.at b z.exception f u asks is_true xs z zs refl first count.0 ct has fits near started
      (subst (IsReached design script) (sym taken) (reached-taken design script x d p r now to)) around in_ none level)
      (comes-taken p t x has count.0 off now) has.tests (record { agrees = record { same = refl; ended = λ q. refl }; home = refl; vias = refl; calls = refl }) began
      (record { inner = q; left = left; stays = stays }))
