-- Behind the taking of a thread out of a tick's wait at which a reset is at its level, its own statements begin again.
use Rattle.std.proofs.Common.{◌≡◌, ◌+◌, ℕ, suc, true, false, List, [], ◌∷◌, ◌++◌, length, slice_get, Some, refl, sym, ap, ◌∙◌, subst, arith}
use Rattle.std.specs.Prelude.{Ok}
use Rattle.std.proofs.lemmas.Option.{same_Some}
use Rattle.laws_runs.specs.LogicValues.declared.kinds.Value.{Value}
use Rattle.laws_runs.specs.FlatDesign.Code as code
use Rattle.laws_runs.specs.FlatDesign.Sound.{SoundDesign}
use Rattle.laws_runs.specs.FlatDesign.declared.design.Design.{Design}
use Rattle.laws_runs.specs.SimModel.Values.{truth}
use Rattle.laws_runs.specs.SimModel.Residual.{Residual, Frame, skip, seq, statements, block, settle, put}
use Rattle.laws_runs.specs.SimModel.Configuration.{Config, Instance, arena, instance_at, with_residual}
use Rattle.laws_runs.specs.SimModel.Reading.{here, val}
use Rattle.laws_runs.specs.SimModel.Statements.{settled_in}
use Rattle.laws_runs.specs.SimModel.Steps.{takes, step, taking}
use Rattle.laws_runs.specs.SimModel.Clean.{times}
use Rattle.laws_runs.specs.SimModel.declared.plain.Command.{Command}
use Rattle.laws_runs.proofs.MarkedRuns.{marked-after}
use Rattle.laws_runs.proofs.RunSteps.{takes-empty}
use Rattle.laws_clocked.specs.Spots.{IsLeft}
use Rattle.laws_clocked.specs.Ticks.{Test, Tick, behind, IsTest, AreTests, HasTick, left_at, checking}
use Rattle.laws_clocked.specs.Turns.{ComesTo}
use Rattle.laws_clocked.proofs.Counted.{IsBehindCounted}
use Rattle.laws_clocked.specs.Levels.{IsNotAtLevel, NoneAtLevel, IsAtLevel}
use Rattle.laws_clocked.specs.Again.{Around, HasAround, trying, IsPlain, StandsAt, BeginsAgain}
use Rattle.laws_clocked.proofs.Showing.{shows-left}
use Rattle.laws_clocked.proofs.Going.{GoesTo, test-goes, throw-goes, next-throw}
use Rattle.laws_clocked.proofs.OwnSteps.{changed-at}
use Rattle.laws_clocked.proofs.Passing.{IsAway, placed, alone, taken-is, comes-taken}
use Rattle.laws_clocked.proofs.Ticking.{IsReached, unbegun}
use Rattle.laws_clocked.proofs.Levels.{Near}
use Rattle.laws_clocked.proofs.Throwing.{asked, next_near, goalless}
use Rattle.laws_clocked.proofs.Plain.{plain-shows, plain-goes, plain-catches, plain-bare, none-catches, none-bare, put-trying}
use Rattle.laws_clocked.proofs.Catching.{a-step, throw-begins}

-- the steps of so many tests, the throw, and three more
abbrev count : List Test → ℕ
count [] = 5
count (x ∷ xs) = suc (count xs)

count_is : (xs : List Test) → count xs ≡ length xs + 5
count_is [] = refl
count_is (x ∷ xs) = ap suc (count_is xs) ∙ one_more (length xs)
  where
    one_more : (n : ℕ) → suc (n + 5) ≡ suc n + 5
    one_more n = omega arith

module _ (p : ℕ) (t : Tick) (x0 : Config) (i0 : Instance) (at0 : instance_at x0 p ≡ Some i0) (b : Around) (e : ℕ) (f : Frame) (u : Value) (asks : slice_get f.locals b.again ≡ Some u) (is_true : truth u ≡ true) where
  -- inside the try
  record Within (y : Config) (i : Instance) (ts : List Test) : Type 0 where
    inner : Residual
    left : settle (arena y) i.residual ≡ trying b f inner
    stays : IsPlain e (left_at t (checking ts)) inner

  module _ (x : Test) (xs : List Test) (y : Config) (v : Value) (ct : ComesTo y p t (checking (x ∷ xs)) v) (has : HasTick (arena y) t) (is : IsTest (arena y) x) (near : Near p t x0 i0 at0 y ct.instance)
      (around : HasAround (arena y) b e) (in_ : Within y ct.instance (x ∷ xs)) (only : ct.rest ≡ []) where
    abbrev body : Residual
    body = settle (arena y) ct.instance.residual

    abbrev old : Config
    old = settled_in y p ct.instance.residual

    abbrev with_ : Residual → Config
    with_ n = with_residual old p (put body n)

    -- what comes of the test, in the place of its statement
    stands : (n z : Residual) → GoesTo (arena y) (left_at t (checking (x ∷ xs))) n z x.test → IsLeft z → settle (arena y) (put body n) ≡ trying b f (settle (arena y) (put in_.inner n))
    stands n z g l =
        ap (λ q. settle (arena y) (put q n)) in_.left
        ∙ put-trying (arena y) b f in_.inner n (shows-left z (settle (arena y) (put in_.inner n)) (plain-shows e z (settle (arena y) (put in_.inner n)) (plain-goes e (arena y) (left_at t (checking (x ∷ xs))) n z x.test g in_.inner in_.stays)) l)

    alone_on : ct.rest ≡ [] → y.processes.stack ≡ p ∷ []
    alone_on o = ct.top ∙ ap (λ l. p ∷ l) o

    held : x.exception ≡ e → IsAtLevel x0 p x → BeginsAgain y p [] b f 5
    held same level =
        let n = block (arena y) x.block in
        let z = seq (statements (x.throws ∷ behind t xs)) (t.loops ∷ []) in
        let g = throw-goes (arena y) t has x xs is in
        let d = with_ n in
        let now = asked p t x0 i0 at0 x xs y v ct has is near level.answer
        (subst (λ (j : Instance). val (here x0 p j (settle (arena x0) j.residual)) x.is_at_level ≡ Ok level.answer) (same_Some level.instance i0 (sym level.at ∙ at0)) level.is) true level.says in
        let inner = settle (arena y) (put in_.inner n) in
        let stays = plain-goes e (arena y) (left_at t (checking (x ∷ xs))) n z x.test g in_.inner in_.stays in
        let h : StandsAt d p [] (trying b f inner) = record {
          runs = ct.runs;
          evaluates = ct.evaluates;
          top = alone_on only;
          instance = record ct.instance { residual = put body n };
          at = changed-at y p ct.instance ct.at (λ j. record j { residual = put body n });
          left = stands n z g tt;
        } in
        a-step p [] b e f u asks is_true 4 y d now (alone_on only)
        (throw-begins d p [] b e around f inner h x.throws (next-throw (arena y) t has x xs inner (plain-shows e z inner stays)) (is.throw ∙ ap (λ k. Some (code.throw k)) same)
        (plain-catches e z inner stays (none-catches e x.throws (behind t xs) (t.loops ∷ []))) (plain-bare e (arena y) z inner stays (none-bare (arena y) x.throws (behind t xs) (t.loops ∷ []))) u asks is_true)

    next_within : Within (with_ skip) (record ct.instance { residual = put body skip }) xs
    next_within =
        let g = test-goes (arena y) t has x xs in
        record {
          inner = settle (arena y) (put in_.inner skip);
          left = stands skip (left_at t (checking xs)) g tt;
          stays = plain-goes e (arena y) (left_at t (checking (x ∷ xs))) skip (left_at t (checking xs)) x.test g in_.inner in_.stays;
        }

    passes_on : (n : ℕ) → IsNotAtLevel x0 p x → BeginsAgain (with_ skip) p [] b f n → BeginsAgain y p [] b f (suc n)
    passes_on n level k =
        let now = asked p t x0 i0 at0 x xs y v ct has is near level.answer
        (subst (λ (j : Instance). val (here x0 p j (settle (arena x0) j.residual)) x.is_at_level ≡ Ok level.answer) (same_Some level.instance i0 (sym level.at ∙ at0)) level.is) false level.says in
        a-step p [] b e f u asks is_true n y (with_ skip) now (alone_on only) k

  walk : (xs : List Test) (z : Test) (zs : List Test) → z.exception ≡ e → (y : Config) (v : Value) (ct : ComesTo y p t (checking (xs ++ z ∷ zs)) v) → HasTick (arena y) t → AreTests (arena y) (xs ++ z ∷ zs) → Near p t x0 i0 at0 y ct.instance → ct.rest ≡ [] → ct.instance.started ≡ true
      → HasAround (arena y) b e → Within y ct.instance (xs ++ z ∷ zs) → NoneAtLevel x0 p xs → IsAtLevel x0 p z → BeginsAgain y p [] b f (count xs)
  walk [] z zs same y v ct has fits near only began around in_ none level = held z zs y v ct has fits.0 near around in_ only same level
  walk (x ∷ xs) z zs same y v ct has fits near only began around in_ none level =
      passes_on x (xs ++ z ∷ zs) y v ct has fits.0 near around in_ only (count xs) none.0
      (walk xs z zs same (with_residual (settled_in y p ct.instance.residual) p (put (settle (arena y) ct.instance.residual) skip)) v
      (placed p t y has (checking (x ∷ (xs ++ z ∷ zs))) v ct began skip x.test (checking (xs ++ z ∷ zs)) (test-goes (arena y) t has x (xs ++ z ∷ zs))) has fits.1
      (next_near p t x0 i0 at0 x (xs ++ z ∷ zs) y v ct has fits.0 near) only began around (next_within x (xs ++ z ∷ zs) y v ct has fits.0 near around in_ only) none.1 level)

module _ (design : Design) (script : List Command) (sound : SoundDesign design) (p : ℕ) (t : Tick) where
  pub begins-at : (x : Config) → IsReached design script x → HasTick (arena x) t → (v : Value) → (w : IsBehindCounted x p t v) → step x ≡ takes → (d : Config) → taking x p ≡ Some d
      → (xs : List Test) (z : Test) (zs : List Test) → t.tests ≡ xs ++ z ∷ zs → NoneAtLevel x p xs → IsAtLevel x p z
      → (b : Around) → HasAround (arena x) b z.exception → (f : Frame) (r : Residual) → settle (arena x) w.instance.residual ≡ trying b f r → IsPlain z.exception (left_at t (checking t.tests)) r
      → (u : Value) → slice_get f.locals b.again ≡ Some u → truth u ≡ true
      → BeginsAgain d p [] b f (length xs + 5)
  begins-at x r has v w now d to xs z zs split none level b around f inner left stays u asks is_true =
      let began = unbegun design script sound p t (left_at t (checking t.tests)) tt (goalless design script sound p t (behind t t.tests)) (arena x) w.instance.started w.instance.residual
      ((marked-after design script sound r.steps r.choices x r.reached).rooted p w.instance w.at) w.inside.shows in
      let off : IsAway p t x v = record { instance = w.instance; at = w.at; begun = began; off = ap (times p) (takes-empty x now); inside = w.inside } in
      let first = alone p t x has w.instance in
      let W : Instance → List Test → Type 0 = λ i ts. Within p t x w.instance w.at b z.exception f u asks is_true first i ts in
      subst (λ e. BeginsAgain e p [] b f (length xs + 5)) (taken-is p t x has w.instance w.at began d to)
      (subst (BeginsAgain first p [] b f) (count_is xs)
      (subst (λ (ts : List Test). (ct : ComesTo first p t (checking ts) v) → AreTests (arena x) ts → Near p t x w.instance w.at first ct.instance → ct.rest ≡ [] → ct.instance.started ≡ true → W ct.instance ts → BeginsAgain first p [] b f (count xs))
      (sym split)
      (λ ct fits near only started in_. walk p t x w.instance w.at b z.exception f u asks is_true xs z zs refl first v ct has fits near only started around in_ none level)
      (comes-taken p t x has v off now) has.tests (record { agrees = record { same = refl; ended = λ q. refl }; home = refl; vias = refl; calls = refl }) refl began
      (record { inner = inner; left = left; stays = stays })))
