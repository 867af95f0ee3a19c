-- Behind the taking of a thread out of a tick's wait, the step after the test of the first reset that is at its level throws.
use Rattle.std.proofs.Common.{◌≡◌, ℕ, suc, Bool, true, false, List, [], ◌∷◌, ◌++◌, length, Some, None, refl, sym, ap, ◌∙◌, subst}
use Rattle.std.specs.Prelude.{Result, Ok}
use Rattle.std.proofs.lemmas.Option.{same_Some}
use Rattle.laws_runs.specs.LogicValues.declared.kinds.Value.{Value}
use Rattle.laws_runs.specs.FlatDesign.Sound.{SoundDesign}
use Rattle.laws_runs.specs.FlatDesign.declared.design.Design.{Design}
use Rattle.laws_runs.specs.FlatDesign.declared.faults.RunFault.{RunFault}
use Rattle.laws_runs.specs.SimModel.Values.{on_ok, truth}
use Rattle.laws_runs.specs.SimModel.Residual.{Residual, skip, seq, statements, block, settle, put, has_goal}
use Rattle.laws_runs.specs.SimModel.Configuration.{Config, Instance, arena, instance_at, with_residual}
use Rattle.laws_runs.specs.SimModel.Reading.{here, val}
use Rattle.laws_runs.specs.SimModel.Storing.{chosen}
use Rattle.laws_runs.specs.SimModel.Statements.{settled_in, statement_step}
use Rattle.laws_runs.specs.SimModel.Steps.{went, takes, as_outcome, step, taking}
use Rattle.laws_runs.specs.SimModel.Runs.{after, and_then}
use Rattle.laws_runs.specs.SimModel.Clean.{times}
use Rattle.laws_runs.specs.SimModel.declared.plain.Command.{Command}
use Rattle.laws_runs.proofs.MarkedRuns.{marked-after}
use Rattle.laws_runs.proofs.RunSteps.{takes-empty}
use Rattle.laws_clocked.specs.Ticks.{Test, Tick, behind, IsTest, AreTests, HasTick, left_at, checking}
use Rattle.laws_clocked.specs.Turns.{ComesTo}
use Rattle.laws_clocked.proofs.Counted.{IsBehindCounted}
use Rattle.laws_clocked.specs.Levels.{IsNotAtLevel, NoneAtLevel, IsAtLevel}
use Rattle.laws_clocked.specs.Resets.{ThrowsAfter}
use Rattle.laws_clocked.proofs.Going.{goes, goes-within, goes-next, test-goes, throw-goes, next-throw}
use Rattle.laws_clocked.proofs.OwnSteps.{step-top, changed-at, chooses}
use Rattle.laws_clocked.proofs.SameValues.{agrees-val}
use Rattle.laws_clocked.proofs.Passing.{IsAway, placed, alone, taken-is, comes-taken}
use Rattle.laws_clocked.proofs.Ticking.{IsReached, unbegun}
use Rattle.laws_clocked.proofs.Levels.{Near, goes_via, agrees_body}

same_ok : (x y : Value) → ◌≡◌ {A = Result Value RunFault} (Ok x) (Ok y) → x ≡ y
same_ok x y e = cc

module _ (p : ℕ) (t : Tick) (x0 : Config) (i0 : Instance) (at0 : instance_at x0 p ≡ Some i0) where
  module _ (x : Test) (xs : List Test) (y : Config) (v : Value) (ct : ComesTo y p t (checking (x ∷ xs)) v) (has : HasTick (arena y) t) (is : IsTest (arena y) x) (near : Near p t x0 i0 at0 y ct.instance) where
    abbrev body : Residual
    body = settle (arena y) ct.instance.residual

    abbrev old : Config
    old = settled_in y p ct.instance.residual

    abbrev own : Instance
    own = record ct.instance { residual = body }

    chooses_by : statement_step y p ≡ on_ok (val (here old p own body) x.is_at_level) (λ w. Ok (with_residual old p (put body (chosen old (truth w) x.block None))))
    chooses_by =
        chooses y p ct.instance ct.at x.test x.block x.is_at_level
        (goes-next (arena y) (left_at t (checking (x ∷ xs))) skip (left_at t (checking xs)) x.test (test-goes (arena y) t has x xs) body ct.inside.shows) is.tests

    -- asked here it answers as at the taking
    as_then : val (here old p own body) x.is_at_level ≡ val (here x0 p i0 (settle (arena x0) i0.residual)) x.is_at_level
    as_then = agrees-val x0 old (agrees_body x0 y p (λ j. record j { residual = body }) old.processes old.trace (λ j. refl) refl near.agrees) p i0 own (settle (arena x0) i0.residual) body near.home near.vias near.calls x.is_at_level

    pub asked : (w : Value) → val (here x0 p i0 (settle (arena x0) i0.residual)) x.is_at_level ≡ Ok w → (b : Bool) → truth w ≡ b → step y ≡ went (with_residual old p (put body (chosen old b x.block None)))
    asked w answers b is_b =
        step-top y p ct.rest ct.runs ct.evaluates ct.top
        ∙ ap as_outcome (chooses_by ∙ ap (λ (m : Result Value RunFault). on_ok m (λ u. Ok (with_residual old p (put body (chosen old (truth u) x.block None))))) (as_then ∙ answers)
        ∙ ap (λ z. Ok (with_residual old p (put body (chosen old z x.block None)))) is_b)

    abbrev pub next_near : Near p t x0 i0 at0 (with_residual old p (put body skip)) (record ct.instance { residual = put body skip })
    next_near = record {
      agrees = agrees_body x0 old p (λ j. record j { residual = put body skip }) (with_residual old p (put body skip)).processes (with_residual old p (put body skip)).trace (λ j. refl) refl
          (agrees_body x0 y p (λ j. record j { residual = body }) old.processes old.trace (λ j. refl) refl near.agrees);
      home = near.home;
      vias = goes_via (arena y) t has x xs body ct.inside.shows ∙ near.vias;
      calls = goes-within (arena y) (left_at t (checking (x ∷ xs))) skip (left_at t (checking xs)) x.test (test-goes (arena y) t has x xs) body ct.inside.shows ∙ near.calls;
    }

    -- it holds: its throw comes next
    held : IsAtLevel x0 p x → ct.rest ≡ [] → ThrowsAfter y p 1 x
    held level only =
        let d = with_residual old p (put body (block (arena y) x.block)) in
        let answers = subst (λ (j : Instance). val (here x0 p j (settle (arena x0) j.residual)) x.is_at_level ≡ Ok level.answer) (same_Some level.instance i0 (sym level.at ∙ at0)) level.is in
        record {
          then = d;
          reached = ap (λ o. and_then o y [] (after 0)) (asked level.answer answers true level.says);
          runs = ct.runs;
          evaluates = ct.evaluates;
          alone = ct.top ∙ ap (λ l. p ∷ l) only;
          instance = record ct.instance { residual = put body (block (arena y) x.block) };
          at = changed-at y p ct.instance ct.at (λ j. record j { residual = put body (block (arena y) x.block) });
          next = next-throw (arena y) t has x xs (settle (arena y) (put body (block (arena y) x.block)))
              (goes (arena y) (left_at t (checking (x ∷ xs))) (block (arena y) x.block) (seq (statements (x.throws ∷ behind t xs)) (t.loops ∷ [])) x.test (throw-goes (arena y) t has x xs is) body ct.inside.shows);
          throws = is.throw;
        }

    -- it does not hold: what comes later comes a step later
    passes_on : (n : ℕ) (z : Test) → IsNotAtLevel x0 p x → ThrowsAfter (with_residual old p (put body skip)) p n z → ThrowsAfter y p (suc n) z
    passes_on n z level f =
        let answers = subst (λ (j : Instance). val (here x0 p j (settle (arena x0) j.residual)) x.is_at_level ≡ Ok level.answer) (same_Some level.instance i0 (sym level.at ∙ at0)) level.is in
        record {
          then = f.then;
          reached = ap (λ o. and_then o y [] (after n)) (asked level.answer answers false level.says) ∙ f.reached;
          runs = f.runs;
          evaluates = f.evaluates;
          alone = f.alone;
          instance = f.instance;
          at = f.at;
          next = f.next;
          throws = f.throws;
        }

  walk : (xs : List Test) (z : Test) (zs : List Test) (y : Config) (v : Value) (ct : ComesTo y p t (checking (xs ++ z ∷ zs)) v) → HasTick (arena y) t → AreTests (arena y) (xs ++ z ∷ zs) → Near p t x0 i0 at0 y ct.instance → ct.rest ≡ [] → ct.instance.started ≡ true
      → NoneAtLevel x0 p xs → IsAtLevel x0 p z → ThrowsAfter y p (suc (length xs)) z
  walk [] z zs y v ct has fits near only began none level = held z zs y v ct has fits.0 near level only
  walk (x ∷ xs) z zs y v ct has fits near only began none level =
      passes_on x (xs ++ z ∷ zs) y v ct has fits.0 near (suc (length xs)) z none.0
      (walk xs z zs (with_residual (settled_in y p ct.instance.residual) p (put (settle (arena y) ct.instance.residual) skip)) v
      (placed p t y has (checking (x ∷ (xs ++ z ∷ zs))) v ct began skip x.test (checking (xs ++ z ∷ zs)) (test-goes (arena y) t has x (xs ++ z ∷ zs))) has fits.1
      (next_near x (xs ++ z ∷ zs) y v ct has fits.0 near) only began none.1 level)

module _ (design : Design) (script : List Command) (sound : SoundDesign design) (p : ℕ) (t : Tick) where
  pub goalless : (ss : List ℕ) → has_goal (seq (statements ss) (t.loops ∷ [])) ≡ false
  goalless [] = refl
  goalless (s ∷ []) = refl
  goalless (s ∷ u ∷ us) = refl

  pub throws-at : (x : Config) → IsReached design script x → HasTick (arena x) t → (v : Value) → IsBehindCounted x p t v → step x ≡ takes → (d : Config) → taking x p ≡ Some d
      → (xs : List Test) (z : Test) (zs : List Test) → t.tests ≡ xs ++ z ∷ zs → NoneAtLevel x p xs → IsAtLevel x p z → ThrowsAfter d p (suc (length xs)) z
  throws-at x r has v w now d to xs z zs split none level =
      let began = unbegun design script sound p t (left_at t (checking t.tests)) tt (goalless (behind t t.tests)) (arena x) w.instance.started w.instance.residual
      ((marked-after design script sound r.steps r.choices x r.reached).rooted p w.instance w.at) w.inside.shows in
      let off : IsAway p t x v = record { instance = w.instance; at = w.at; begun = began; off = ap (times p) (takes-empty x now); inside = w.inside } in
      subst (λ e. ThrowsAfter e p (suc (length xs)) z) (taken-is p t x has w.instance w.at began d to)
      (subst (λ (ts : List Test). (ct : ComesTo (alone p t x has w.instance) p t (checking ts) v) → AreTests (arena x) ts → Near p t x w.instance w.at (alone p t x has w.instance) ct.instance → ct.rest ≡ [] → ct.instance.started ≡ true → ThrowsAfter (alone p t x has w.instance) p (suc (length xs)) z)
      (sym split)
      (λ ct fits near only started. walk p t x w.instance w.at xs z zs (alone p t x has w.instance) v ct has fits near only started none level)
      (comes-taken p t x has v off now) has.tests (record { agrees = record { same = refl; ended = λ q. refl }; home = refl; vias = refl; calls = refl }) refl began)
