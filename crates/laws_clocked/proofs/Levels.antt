-- In the turn of a taking out of a tick's wait each reset is asked for, and where the tick is not unwound none was at its level when
-- the thread was taken.
use Rattle.std.proofs.Common.{◌≡◌, ◌+◌, ◌-◌, ◌<◌, ℕ, zero, suc, Bool, true, false, List, [], ◌∷◌, ◌++◌, slice_get, Option, Some, None, refl, sym, ap, ◌∙◌, subst, arith}
use Rattle.std.specs.Prelude.{Result, Ok, Err}
use Rattle.std.proofs.lemmas.Option.{none-some, same_Some}
use Rattle.laws_runs.specs.LogicValues.declared.kinds.Value.{Value}
use Rattle.laws_runs.specs.FlatDesign.Code.{Arena}
use Rattle.laws_runs.specs.FlatDesign.Sound.{SoundDesign}
use Rattle.laws_runs.specs.FlatDesign.declared.design.Design.{Design}
use Rattle.laws_runs.specs.FlatDesign.declared.faults.RunFault.{RunFault}
use Rattle.laws_runs.specs.SimModel.Values.{on_ok, truth}
use Rattle.laws_runs.specs.SimModel.Residual.{Residual, skip, seq, statements, block, settle, put, innermost, within}
use Rattle.laws_runs.specs.SimModel.Configuration.{Config, Instance, Processes, Trace, arena, change, instance_at, with_residual}
use Rattle.laws_runs.specs.SimModel.Reading.{here, has_ended, val}
use Rattle.laws_runs.specs.SimModel.Storing.{chosen}
use Rattle.laws_runs.specs.SimModel.Statements.{settled_in, statement_step}
use Rattle.laws_runs.specs.SimModel.Steps.{Outcome, went, faulted, takes, ended, as_outcome, step, taking}
use Rattle.laws_runs.specs.SimModel.Runs.{after, and_then, took}
use Rattle.laws_runs.specs.SimModel.declared.plain.Command.{Command}
use Rattle.laws_runs.proofs.RunSteps.{takes-empty}
use Rattle.laws_clocked.specs.Spots.{Shows}
use Rattle.laws_clocked.specs.Ticks.{Test, Tick, behind, IsTest, AreTests, HasTick, left_at, checking}
use Rattle.laws_clocked.specs.Turns.{ComesTo, IsLeaving, IsNotUnwound}
use Rattle.laws_clocked.proofs.Counted.{LeavesCounted}
use Rattle.laws_clocked.specs.Levels.{NoneAtLevel}
use Rattle.laws_clocked.proofs.Showing.{shows-put, within-put, within-settled}
use Rattle.laws_clocked.proofs.Going.{goes, goes-left, goes-within, goes-next, test-goes, throw-goes}
use Rattle.laws_clocked.proofs.OwnSteps.{step-top, changed-at, chooses}
use Rattle.laws_clocked.proofs.SameValues.{Agrees, agrees-val, ended-change}
use Rattle.laws_clocked.proofs.Passing.{ThrowsNext, State, comes, throws, away, placed, throw-step, alone, taken-is, comes-taken, left-not_at_test, left-not_at_throw}
use Rattle.laws_clocked.proofs.Ticking.{Goes, goes-went, goes-taken, goes-here, IsReached, Between, between-first, reach}

-- ---- no transport call is open among the statements of a block

bare_via : (ss : List ℕ) → within (statements ss) ≡ None
bare_via [] = refl
bare_via (s ∷ []) = refl
bare_via (s ∷ u ∷ us) = refl

new_via : (t : Tick) (x : Test) (xs : List Test) → within (put (left_at t (checking (x ∷ xs))) skip) ≡ None
new_via t x [] = refl
new_via t x (y ∷ ys) = refl

pub goes_via : (a : Arena) (t : Tick) (has : HasTick a t) (x : Test) (xs : List Test) (r : Residual) → Shows (left_at t (checking (x ∷ xs))) r → within (settle a (put r skip)) ≡ within r
goes_via a t has x xs r h =
    let g = test-goes a t has x xs in
    within-settled a (put (left_at t (checking (x ∷ xs))) skip) (goes-left a (left_at t (checking (x ∷ xs))) skip (left_at t (checking xs)) x.test g r h)
    (ap within g.settles ∙ bare_via (behind t xs) ∙ sym (new_via t x xs)) (put r skip) (shows-put (left_at t (checking (x ∷ xs))) r skip x.test h g.next)
    ∙ within-put (left_at t (checking (x ∷ xs))) r skip x.test h g.next (new_via t x xs ∙ sym (bare_via (behind t (x ∷ xs))))

-- ---- from the taking on

pub agrees_body : (c d : Config) (p : ℕ) (f : Instance → Instance) (ps : Processes) (tr : Trace) → ((i : Instance) → (f i).ended ≡ i.ended) → ps.instances ≡ change d.processes.instances p f → Agrees c d → Agrees c (record d { processes = ps; trace = tr })
agrees_body c d p f ps tr keeps is a = record {
  same = ap (λ (x : Config). record x { processes = ps; trace = tr }) a.same;
  ended = λ q. ap (λ js. has_ended (slice_get js q)) is ∙ ended-change d.processes.instances p f keeps q ∙ a.ended q;
}

module _ (p : ℕ) (t : Tick) (x0 : Config) (i0 : Instance) (at0 : instance_at x0 p ≡ Some i0) where
  abbrev r0 : Residual
  r0 = settle (arena x0) i0.residual

  -- since the taking nothing but what is left of p has changed, and its calls are the same
  pub record Near (y : Config) (i : Instance) : Type 0 where
    pub agrees : Agrees x0 y
    pub home : i.home ≡ i0.home
    pub vias : within (settle (arena y) i.residual) ≡ within r0
    pub calls : innermost (settle (arena y) i.residual) ≡ innermost r0

  abbrev Ends : ℕ → List ℕ → Config → Config → Type 0
  Ends n choices c e = Goes (λ x. IsLeaving x p t → ⊥) (λ x. IsNotUnwound x p) n choices c e

  -- a throw comes next, and the run goes on: that is an unwinding
  thrown_not : (x : Test) (xs : List Test) (d : Config) → HasTick (arena d) t → IsTest (arena d) x → ThrowsNext p t d x xs → (n : ℕ) (choices : List ℕ) (e : Config) → IsLeaving e p t → Ends n choices d e → ⊥
  thrown_not x xs d has is w zero [] e leaves g = left-not_at_throw p t d has (subst (λ z. IsLeaving z p t) (sym (same_Some d e g.reached)) leaves) x xs is w
  thrown_not x xs d has is w zero (q ∷ choices) e leaves g = none-some e g.reached
  thrown_not x xs d has is w (suc n) choices e leaves g = by choices g (step d) refl g.reached
    where
      not_empty : (stack : List ℕ) → stack ≡ p ∷ w.rest → stack ≡ [] → ⊥
      not_empty stack one_ two = cc

      by : (zs : List ℕ) → Ends (suc n) zs d e → (o : Outcome) → step d ≡ o → and_then o d zs (after n) ≡ Some e → ⊥
      by zs k (went f) now reached =
          throw-step p t d has x xs is w f now (goes-here (λ z. IsLeaving z p t → ⊥) (λ z. IsNotUnwound z p) n zs f e (goes-went (λ z. IsLeaving z p t → ⊥) (λ z. IsNotUnwound z p) n zs d f e now k))
      by zs k (faulted f) now reached = none-some e reached
      by zs k takes now reached = not_empty d.processes.stack w.top (takes-empty d now)
      by zs k ended now reached = none-some e reached

  -- each of these tests is asked, one after another
  abbrev Walks : List Test → Type 0
  Walks xs = (y : Config) (v : Value) (ct : ComesTo y p t (checking xs) v) → ct.instance.started ≡ true → HasTick (arena y) t → AreTests (arena y) xs → Near y ct.instance
      → (n : ℕ) (choices : List ℕ) (e : Config) → IsLeaving e p t → Ends n choices y e → NoneAtLevel x0 p xs

  module _ (x : Test) (xs : List Test) (later : Walks xs) (y : Config) (v : Value) (ct : ComesTo y p t (checking (x ∷ xs)) v) (begun : ct.instance.started ≡ true) (has : HasTick (arena y) t)
      (fits : AreTests (arena y) (x ∷ xs)) (near : Near y ct.instance) (n : ℕ) (choices : List ℕ) (e : Config) (leaves : IsLeaving e p t) (g : Ends (suc n) choices y e) where
    abbrev body : Residual
    body = settle (arena y) ct.instance.residual

    abbrev old : Config
    old = settled_in y p ct.instance.residual

    abbrev own : Instance
    own = record ct.instance { residual = body }

    to : (m : Result Config RunFault) → statement_step y p ≡ m → step y ≡ as_outcome m
    to m is = step-top y p ct.rest ct.runs ct.evaluates ct.top ∙ ap as_outcome is

    chooses_by : statement_step y p ≡ on_ok (val (here old p own body) x.is_at_level) (λ w. Ok (with_residual old p (put body (chosen old (truth w) x.block None))))
    chooses_by =
        chooses y p ct.instance ct.at x.test x.block x.is_at_level
        (goes-next (arena y) (left_at t (checking (x ∷ xs))) skip (left_at t (checking xs)) x.test (test-goes (arena y) t has x xs) body ct.inside.shows) fits.0.tests

    -- asked here it answers as at the taking
    as_then : val (here old p own body) x.is_at_level ≡ val (here x0 p i0 r0) x.is_at_level
    as_then = agrees-val x0 old (agrees_body x0 y p (λ j. record j { residual = body }) old.processes old.trace (λ j. refl) refl near.agrees) p i0 own r0 body near.home near.vias near.calls x.is_at_level

    asked : (m : Result Value RunFault) → val (here old p own body) x.is_at_level ≡ m → NoneAtLevel x0 p (x ∷ xs)
    asked (Err f) is =
        absurd (none-some e (sym (ap (λ o. and_then o y choices (after n)) (to (Err f) (chooses_by ∙ ap (λ (m : Result Value RunFault). on_ok m (λ w. Ok (with_residual old p (put body (chosen old (truth w) x.block None))))) is))) ∙ g.reached))
    asked (Ok w) is = answers (truth w) refl
      where
        steps : (b : Bool) → truth w ≡ b → step y ≡ went (with_residual old p (put body (chosen old b x.block None)))
        steps b is_b =
            to (Ok (with_residual old p (put body (chosen old b x.block None))))
            (chooses_by ∙ ap (λ (m : Result Value RunFault). on_ok m (λ u. Ok (with_residual old p (put body (chosen old (truth u) x.block None))))) is
            ∙ ap (λ z. Ok (with_residual old p (put body (chosen old z x.block None)))) is_b)

        answers : (b : Bool) → truth w ≡ b → NoneAtLevel x0 p (x ∷ xs)
        answers true is_b =
            let d = with_residual old p (put body (block (arena y) x.block)) in
            absurd (thrown_not x xs d has fits.0 (record {
              runs = ct.runs;
              evaluates = ct.evaluates;
              rest = ct.rest;
              top = ct.top;
              instance = record ct.instance { residual = put body (block (arena y) x.block) };
              at = changed-at y p ct.instance ct.at (λ j. record j { residual = put body (block (arena y) x.block) });
              shows = goes (arena y) (left_at t (checking (x ∷ xs))) (block (arena y) x.block) (seq (statements (x.throws ∷ behind t xs)) (t.loops ∷ [])) x.test (throw-goes (arena y) t has x xs fits.0) body ct.inside.shows;
            }) n choices e leaves (goes-went (λ z. IsLeaving z p t → ⊥) (λ z. IsNotUnwound z p) n choices y d e (steps true is_b) g))
        answers false is_b =
            let d = with_residual old p (put body skip) in
            let next = placed p t y has (checking (x ∷ xs)) v ct begun skip x.test (checking xs) (test-goes (arena y) t has x xs) in (
              record { instance = i0; at = at0; answer = w; is = sym as_then ∙ is; says = is_b },
              later d v next begun has fits.1
                  (record {
                    agrees = agrees_body x0 old p (λ j. record j { residual = put body skip }) d.processes d.trace (λ j. refl) refl (agrees_body x0 y p (λ j. record j { residual = body }) old.processes old.trace (λ j. refl) refl near.agrees);
                    home = near.home;
                    vias = goes_via (arena y) t has x xs body ct.inside.shows ∙ near.vias;
                    calls = goes-within (arena y) (left_at t (checking (x ∷ xs))) skip (left_at t (checking xs)) x.test (test-goes (arena y) t has x xs) body ct.inside.shows ∙ near.calls;
                  })
                  n choices e leaves (goes-went (λ z. IsLeaving z p t → ⊥) (λ z. IsNotUnwound z p) n choices y d e (steps false is_b) g),
            )

  walk : (xs : List Test) → Walks xs
  walk [] y v ct begun has fits near n choices e leaves g = tt
  walk (x ∷ xs) y v ct begun has fits near zero [] e leaves g = absurd (left-not_at_test p t y has (subst (λ z. IsLeaving z p t) (sym (same_Some y e g.reached)) leaves) x xs fits.0 v ct begun)
  walk (x ∷ xs) y v ct begun has fits near zero (q ∷ choices) e leaves g = absurd (none-some e g.reached)
  walk (x ∷ xs) y v ct begun has fits near (suc n) choices e leaves g =
      asked x xs (walk xs) y v ct begun has fits near n choices e leaves g
      (val (here (settled_in y p ct.instance.residual) p (record ct.instance { residual = settle (arena y) ct.instance.residual }) (settle (arena y) ct.instance.residual)) x.is_at_level) refl

-- ---- at the taking of a thread that waits in a tick

module _ (p : ℕ) (t : Tick) (x : Config) (has : HasTick (arena x) t) (now : step x ≡ takes) where
  not_empty : (rest stack : List ℕ) → stack ≡ p ∷ rest → stack ≡ [] → ⊥
  not_empty rest stack one_ two = cc

  pub none-at_taking : (m : ℕ) → State p t x m → (d : Config) → taking x p ≡ Some d → (n : ℕ) (choices : List ℕ) (e : Config) → IsLeaving e p t
      → Goes (λ z. IsLeaving z p t → ⊥) (λ z. IsNotUnwound z p) n choices d e → NoneAtLevel x p t.tests
  none-at_taking m (comes spot v fits ct begun owes) d to n choices e leaves g = absurd (not_empty ct.rest x.processes.stack ct.top (takes-empty x now))
  none-at_taking m (throws y ys is w) d to n choices e leaves g = absurd (not_empty w.rest x.processes.stack w.top (takes-empty x now))
  none-at_taking m (away v w owes) d to n choices e leaves g =
      walk p t x w.instance w.at t.tests (alone p t x has w.instance) v (comes-taken p t x has v w now) w.begun has has.tests
      (record { agrees = record { same = refl; ended = λ q. refl }; home = refl; vias = refl; calls = refl }) n choices e leaves
      (subst (λ z. Goes (λ y. IsLeaving y p t → ⊥) (λ y. IsNotUnwound y p) n choices z e) (sym (taken-is p t x has w.instance w.at w.begun d to)) g)

-- ---- at each taking between the entering of a tick and where it is left

module _ (design : Design) (script : List Command) (sound : SoundDesign design) (p : ℕ) (t : Tick) where
  no_less : (k m : ℕ) → k < m → (j : ℕ) × (k + suc j ≡ m)
  no_less k m less = (m - suc k, omega (arith, less))

  pub levels-at : (c e : Config) → IsReached design script c → HasTick (arena c) t → (n : ℕ) (choices : List ℕ) → LeavesCounted c e p t n choices
      → (k : ℕ) (own left : List ℕ) (x : Config) → k < n → choices ≡ own ++ p ∷ left → after k own c ≡ Some x → step x ≡ takes → NoneAtLevel x p t.tests
  levels-at c e r has n choices l k own left x less split there now = by (taking x p) refl at_x.ends.reached
    where
      more : (j : ℕ) × (k + suc j ≡ n)
      more = no_less k n less

      first : Between design script sound p t n choices c e
      first = between-first design script sound p t c e r has n choices l

      at_x : Between design script sound p t (suc more.0) (p ∷ left) x e
      at_x = reach design script sound p t k (suc more.0) (p ∷ left) x e own c
          (subst (λ m. Between design script sound p t m (own ++ p ∷ left) c e) (sym more.1) (subst (λ zs. Between design script sound p t n zs c e) split first)) there

      by : (o : Option Config) → taking x p ≡ o → and_then (step x) x (p ∷ left) (after more.0) ≡ Some e → NoneAtLevel x p t.tests
      by None to reached = absurd (none-some e (sym (ap (λ z. and_then z x (p ∷ left) (after more.0)) now ∙ ap (λ z. took z (after more.0 left)) to) ∙ reached))
      by (Some d) to reached = none-at_taking p t x at_x.has now at_x.takings at_x.state d to more.0 left e l.leaves (goes-taken (λ z. IsLeaving z p t → ⊥) (λ z. IsNotUnwound z p) more.0 p left x d e now to at_x.ends)
