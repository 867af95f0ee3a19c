-- A turn that a run takes is made of steps of the process's own; it changes neither who is runnable nor the cycle.
use Rattle.std.proofs.Common.{◌≡◌, ◌<◌, inl, inr, ℕ, zero, suc, ◌+◌, cond, List, [], ◌∷◌, length, slice_get, Option, Some, refl, sym, ap, ◌∙◌, subst, arith}
use Rattle.std.specs.Prelude.{◌⊎◌, Result, Ok, Err}
use Rattle.std.specs.Result.{IfOk}
use Rattle.std.proofs.lemmas.Option.{none-some, same_Some}
use Rattle.sim_model.specs.FlatDesign.declared.design.Design.{Design}
use Rattle.sim_model.specs.FlatDesign.declared.faults.RunFault.{RunFault}
use Rattle.sim_model.specs.Configuration.{Config, Cycle, Instance, instance_at}
use Rattle.sim_model.specs.Statements.{statement_step}
use Rattle.sim_model.specs.Steps.{Outcome, takes, ended, as_outcome, evaluate, step_in, step, taking}
use Rattle.sim_model.specs.Runs.{took, and_then, after}
use Rattle.sim_model.specs.declared.plain.Phase.TheVariants as phase
use Rattle.order_free.specs.Free.{Uses, Free}
use Rattle.laws_order.specs.Turns.{Turn, over, goes_on, EachIsOwn}
use Rattle.laws_order.specs.Fits.{Fits}
use Rattle.laws_order.specs.Turned.{IsInTurn, HasTurned}
use Rattle.laws_order.proofs.Within.{IsWithin}
use Rattle.laws_order.proofs.OwnSteps.{Begun, fits-within, alone-within, takes-at, taking-begins}
use Rattle.laws_order.proofs.OwnRuled.{may-do, statics-fixed}
use Rattle.laws_order.proofs.Owns.{is-own}

some_within : {A : Type 0} (xs : List A) (n : ℕ) → n < length xs → (x : A) × (slice_get xs n ≡ Some x)
some_within [] n within = absurd (omega arith)
some_within (x ∷ xs) zero within = (x, refl)
some_within (x ∷ xs) (suc n) within = some_within xs n (omega arith)

-- in an evaluation phase of a run in which each process keeps to itself
pub record Evaluates (d : Design) (c : Config) : Type 0 where
  pub fits : Fits d c
  pub evaluating : c.cycle.phase ≡ phase.Evaluate

-- the same are runnable, and the cycle is where it was
abbrev pub WakesNobody : Config → Config → Type 0
WakesNobody c e = (e.processes.runnable ≡ c.processes.runnable) × (e.cycle ≡ c.cycle)

module _ (d : Design) (free : Free d) (p : ℕ) (among : p < length d.processes) where
  instance_in : (c : Config) → Fits d c → (i : Instance) × (instance_at c p ≡ Some i)
  instance_in c h = some_within c.processes.instances p (subst (λ n. p < n) (sym h.processes.counted) among)

  within_of : (c e : Config) → Fits d c → c.processes.stack ≡ p ∷ [] → statement_step c p ≡ Ok e → IsWithin d p c e
  within_of c e h alone is = subst (λ (m : Result Config RunFault). IfOk m (IsWithin d p c)) is (alone-within d (statics-fixed d free) (may-do d free) c p h alone)

  pub step-wakes-nobody : (c e : Config) → Fits d c → c.processes.stack ≡ p ∷ [] → statement_step c p ≡ Ok e → WakesNobody c e
  step-wakes-nobody c e h alone is = let k = within_of c e h alone is in (k.runnable_is, k.cycle_is)

  on_from : (c e : Config) → Evaluates d c → IsWithin d p c e → Evaluates d e
  on_from c e h k = record {
    fits = fits-within d (statics-fixed d free) (may-do d free) p c e among h.fits h.evaluating k;
    evaluating = ap (λ (x : Cycle). x.phase) k.cycle_is ∙ h.evaluating;
  }

  -- ---- a turn

  pub each-own : (n : ℕ) (c e : Config) (t : Turn p n c e) → Evaluates d c → EachIsOwn (Uses d p) p n c e t
  each-own _ _ _ (over c empty) h = tt
  each-own _ _ _ (goes_on n c x e alone is more) h =
      let i = instance_in c h.fits in (is-own d free c h.fits p i.0 i.1, each-own n x e more (on_from c x h (within_of c x h.fits alone is)))

  pub turn-wakes-nobody : (n : ℕ) (c e : Config) → Turn p n c e → Evaluates d c → WakesNobody c e
  turn-wakes-nobody _ _ _ (over c empty) h = (refl, refl)
  turn-wakes-nobody _ _ _ (goes_on n c x e alone is more) h =
      let k = within_of c x h.fits alone is in
      let later = turn-wakes-nobody n x e more (on_from c x h k) in
      (later.0 ∙ k.runnable_is, later.1 ∙ k.cycle_is)

  -- ---- the steps of a run in it

  step_alone : (c : Config) → Evaluates d c → c.processes.stack ≡ p ∷ [] → step c ≡ as_outcome (statement_step c p)
  step_alone c h alone = ap (λ b. cond b ended (step_in c c.cycle.phase)) h.fits.not_stopped ∙ ap (step_in c) h.evaluating ∙ ap (λ (stack : List ℕ). evaluate c stack c.processes.runnable) alone

  -- a turn of so many steps, and the run from there
  pub record Through (c : Config) (m : ℕ) (choices : List ℕ) (e : Config) : Type 0 where
    pub steps : ℕ
    pub left : ℕ
    pub counted : steps + left ≡ m
    pub turned : Config
    pub turn : Turn p steps c turned
    pub later : after left choices turned ≡ Some e

  abbrev pub Goes : Config → ℕ → List ℕ → Config → Type 0
  Goes c m choices e = IsInTurn p c choices e ⊎ Through c m choices e

  module _ (m : ℕ) (choices : List ℕ) (c e : Config) (h : Evaluates d c) (alone : c.processes.stack ≡ p ∷ []) (on : (x : Config) → Evaluates d x → (x.processes.stack ≡ p ∷ []) ⊎ (x.processes.stack ≡ []) → after m choices x ≡ Some e → Goes x m choices e) where
    one_more : (x : Config) → statement_step c p ≡ Ok x → Goes x m choices e → Goes c (suc m) choices e
    one_more x is (inl t) = let k = step-wakes-nobody c x h.fits alone is in inl (record { alone = t.alone; nobody = t.nobody; runnable = t.runnable ∙ k.0; cycle = t.cycle ∙ k.1 })
    one_more x is (inr t) = let sum = t.counted in inr (record { steps = suc t.steps; left = t.left; counted = omega (arith, sum); turned = t.turned; turn = goes_on t.steps c x t.turned alone is t.turn; later = t.later })

    on_step : (o : Result Config RunFault) → statement_step c p ≡ o → and_then (as_outcome o) c choices (after m) ≡ Some e → Goes c (suc m) choices e
    on_step (Ok x) is reached = let k = within_of c x h.fits alone is in one_more x is (on x (on_from c x h k) k.stack_is reached)
    on_step (Err f) is reached = absurd (none-some e reached)

  pub goes-through : (m : ℕ) (choices : List ℕ) (c e : Config) → Evaluates d c → (c.processes.stack ≡ p ∷ []) ⊎ (c.processes.stack ≡ []) → after m choices c ≡ Some e → Goes c m choices e
  goes-through zero [] c e h (inl alone) reached =
      let same = same_Some c e reached in
      inl (record { alone = subst (λ (x : Config). x.processes.stack ≡ p ∷ []) same alone; nobody = refl; runnable = ap (λ (x : Config). x.processes.runnable) (sym same); cycle = ap (λ (x : Config). x.cycle) (sym same) })
  goes-through zero (q ∷ qs) c e h (inl alone) reached = absurd (none-some e reached)
  goes-through (suc m) choices c e h (inl alone) reached =
      on_step m choices c e h alone (λ x k stack later. goes-through m choices x e k stack later) (statement_step c p) refl
      (subst (λ (o : Outcome). and_then o c choices (after m) ≡ Some e) (step_alone c h alone) reached)
  goes-through m choices c e h (inr empty) reached = inr (record { steps = 0; left = m; counted = omega arith; turned = c; turn = over c empty; later = reached })

  pub turn-empties : (n : ℕ) (c e : Config) → Turn p n c e → e.processes.stack ≡ []
  turn-empties _ _ _ (over c empty) = empty
  turn-empties _ _ _ (goes_on n c x e alone is more) = turn-empties n x e more

  pub turn-after : (n : ℕ) (c e : Config) → Turn p n c e → Evaluates d c → after n [] c ≡ Some e
  turn-after _ _ _ (over c empty) h = refl
  turn-after _ _ _ (goes_on n c x e alone is more) h =
      ap (λ (o : Outcome). and_then o c [] (after n)) (step_alone c h alone ∙ ap as_outcome is) ∙ turn-after n x e more (on_from c x h (within_of c x h.fits alone is))

module _ (d : Design) (free : Free d) (p : ℕ) (c b : Config) (h : Fits d c) (now : step c ≡ takes) (i : Instance) (at : instance_at c p ≡ Some i) (taken : taking c p ≡ Some b) where
  pub begins : Begun d p c b
  begins = taking-begins d (statics-fixed d free) (may-do d free) c p b now h i at taken

  pub evaluates-then : Evaluates d b
  evaluates-then = record {
    fits = begins.fits;
    evaluating = ap (λ (x : Cycle). x.phase) begins.cycle ∙ (takes-at d (statics-fixed d free) (may-do d free) c now).0;
  }

  pub takes-turns : (m : ℕ) (choices : List ℕ) (e : Config) → after m choices b ≡ Some e → IsInTurn p b choices e ⊎ HasTurned d p c m choices e
  takes-turns m choices e reached = by (goes-through d free p begins.among m choices b e evaluates-then (inl begins.alone) reached)
    where
      by : Goes d free p begins.among b m choices e → IsInTurn p b choices e ⊎ HasTurned d p c m choices e
      by (inl t) = inl t
      by (inr t) = inr (record {
        steps = t.steps;
        left = t.left;
        counted = t.counted;
        turned = t.turned;
        turn = record { begun = b; taken = taken; turn = t.turn; own = each-own d free p begins.among t.steps b t.turned t.turn evaluates-then };
        goes_on = t.later;
      })

  pub whole-turn : (n : ℕ) (e : Config) → Turn p n b e → after (suc n) (p ∷ []) c ≡ Some e
  whole-turn n e turn =
      ap (λ (o : Outcome). and_then o c (p ∷ []) (after n)) now ∙ ap (λ (o : Option Config). took o (after n [])) taken ∙ turn-after d free p begins.among n b e turn evaluates-then
