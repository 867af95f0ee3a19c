-- The order of processes does not matter: in an evaluation phase, and in whole runs.
use Rattle.std.proofs.Common.{◌≡◌, ◌⊎◌, inl, inr, ◌+◌, ◌++◌, ℕ, zero, suc, false, cond, List, [], ◌∷◌, Some, refl, sym, ap, ◌∙◌, subst, arith}
use Rattle.std.specs.Prelude.{⊤}
use Rattle.std.proofs.lemmas.Option.{none-some, same_Some}
use Rattle.sim_model.specs.FlatDesign.declared.design.Design.{Design}
use Rattle.sim_model.specs.Configuration.{Config, Cycle, start, with_phase}
use Rattle.sim_model.specs.Phases.{update_phase, update_step, session_stopped}
use Rattle.sim_model.specs.Waits.{holds}
use Rattle.sim_model.specs.Steps.{Outcome, went, faulted, takes, ended}
use Rattle.sim_model.specs.Runs.{after, and_then}
use Rattle.sim_model.specs.declared.plain.Phase.{Phase}
use Rattle.sim_model.specs.declared.plain.Phase.TheVariants as phase
use Rattle.laws_runs.proofs.Splits.{joined, no-more}
use Rattle.sim_model.specs.declared.plain.Command.{Command}
use Rattle.laws_order.specs.Evaluated.{TurnOf, TakesTurns, serials_of, steps_of, HasEvaluated}
use Rattle.laws_order.specs.Same.{Same}
use Rattle.laws_order.specs.SameSteps.{SameOutcome}
use Rattle.laws_order.specs.Evaluations.{Evaluates, IsAtUpdate, IsFirst, IsDone}
use Rattle.laws_order.specs.Below.{OfTheSame, OfRuns}
use Rattle.laws_order.proofs.Stepping.{step-updates}
use Rattle.laws_order.proofs.Reached.{ComesTo, comes-by, comes-further, fits-at}
use Rattle.laws_order.proofs.InOrder.{IsBetween, same-turns}
use Rattle.laws_order.proofs.DoneEnds.{done-outside, AreThrough, AreInLockstep, ends-alike}

pub went-to : (d : Config) (o : Outcome) → SameOutcome (went d) o → (z : Config) × (o ≡ went z) × Same d z
went-to d (went y) h = (y, refl, h)
went-to d (faulted f) h = absurd h
went-to d takes h = absurd h
went-to d ended h = absurd h

pub takes-as : (o : Outcome) → SameOutcome takes o → o ≡ takes
takes-as (went y) h = absurd h
takes-as (faulted f) h = absurd h
takes-as takes h = refl
takes-as ended h = absurd h

pub ended-as : (o : Outcome) → SameOutcome ended o → o ≡ ended
ended-as (went y) h = absurd h
ended-as (faulted f) h = absurd h
ended-as takes h = absurd h
ended-as ended h = refl

append_nil : (xs : List ℕ) → xs ++ [] ≡ xs
append_nil [] = refl
append_nil (x ∷ xs) = ap (λ ys. x ∷ ys) (append_nil xs)

abbrev IsEvaluation : Phase → Type 0
IsEvaluation phase.Idle = ⊥
IsEvaluation phase.Start = ⊥
IsEvaluation phase.Evaluate = ⊤
IsEvaluation phase.Notify = ⊥
IsEvaluation phase.Timed = ⊥

-- the update phase is not the evaluation phase
updated_elsewhere : (c : Config) → c.cycle.stop_asked ≡ false → (update_step c).cycle.phase ≡ phase.Evaluate → ⊥
updated_elsewhere c goes now = subst IsEvaluation (sym now ∙ ap (λ b. (cond b (session_stopped (update_phase c)) (with_phase (update_phase c) phase.Notify)).cycle.phase) goes) tt

module _ (D : Design) (runs : OfRuns D) where
  -- a run is through with an evaluation phase where it is in none, or in another one
  pub through : (n : ℕ) (choices : List ℕ) (c e : Config) → ComesTo D c → Evaluates c → after n choices c ≡ Some e → (e.cycle.phase ≡ phase.Evaluate → ⊥) → HasEvaluated D c n choices e
  through n choices c e r now run elsewhere = by (runs.phases r.script r.n r.choices c r.is_run now.evaluation now.nobody n choices e run)
    where
      by : (e.cycle ≡ c.cycle) ⊎ HasEvaluated D c n choices e → HasEvaluated D c n choices e
      by (inl same) = absurd (elsewhere (ap (λ (y : Cycle). y.phase) same ∙ now.evaluation))
      by (inr h) = h

  module _ (n : ℕ) (choices : List ℕ) (c e : Config) (r : ComesTo D c) (now : Evaluates c) (h : HasEvaluated D c n choices e) where
    pub to-turned : after (steps_of h.turns) (serials_of h.turns) c ≡ Some h.turned
    to-turned = runs.phases_run r.script r.n r.choices c r.is_run now.evaluation now.nobody h.turns h.turned h.taken

    pub comes-to-turned : ComesTo D h.turned
    comes-to-turned = comes-by D c h.turned (steps_of h.turns) (serials_of h.turns) r to-turned

    pub turned-at-update : IsAtUpdate h.turned
    turned-at-update = record { evaluates = record { evaluation = ap (λ (y : Cycle). y.phase) h.cycle ∙ now.evaluation; nobody = h.empty }; none = h.nobody }

  -- so it comes to the update phase by turns
  pub record IsInTurns (k : ℕ) (c e : Config) : Type 0 where
    pub ts : List TurnOf
    pub are : TakesTurns D ts c e
    pub steps : steps_of ts ≡ k

  first_there : (k : ℕ) (choices : List ℕ) (c e : Config) → ComesTo D c → Evaluates c → IsFirst IsAtUpdate k choices c e → (h : HasEvaluated D c (k + suc zero) (choices ++ []) (update_step e)) → (left : ℕ) → h.left ≡ left → IsInTurns k c e
  first_there k choices c e r now first h zero is =
      absurd (updated_elsewhere e (fits-at D runs e (comes-by D c e k choices r first.is_run)).not_asked (at_once h.more is h.goes_on))
    where
      at_once : (more : List ℕ) → h.left ≡ zero → after h.left more h.turned ≡ Some (update_step e) → (update_step e).cycle.phase ≡ phase.Evaluate
      at_once [] none run =
          subst (λ (z : Config). z.cycle.phase ≡ phase.Evaluate) (same_Some h.turned (update_step e) (sym (ap (λ j. after j [] h.turned) none) ∙ run)) (turned-at-update (k + suc zero) (choices ++ []) c (update_step e) r now h).evaluates.evaluation
      at_once (p ∷ more) none run = absurd (none-some (update_step e) (sym (ap (λ j. after j (p ∷ more) h.turned) none) ∙ run))
  first_there k choices c e r now first h (suc j) is = by j is
    where
      reached : after (steps_of h.turns) (serials_of h.turns) c ≡ Some h.turned
      reached = to-turned (k + suc zero) (choices ++ []) c (update_step e) r now h

      chosen : choices ≡ serials_of h.turns ++ h.more
      chosen = sym (h.chosen ∙ append_nil choices)

      by : (i : ℕ) → h.left ≡ suc i → IsInTurns k c e
      by zero one =
          let sum = h.counted in
          let even : steps_of h.turns ≡ k = omega (arith, sum, one) in
          let run : after (steps_of h.turns) (serials_of h.turns ++ h.more) c ≡ Some e = ap (λ i. after i (serials_of h.turns ++ h.more) c) even ∙ ap (λ cs. after k cs c) (sym chosen) ∙ first.is_run in
          let none = no-more (steps_of h.turns) (serials_of h.turns) h.more c h.turned e reached run in
          let same : h.turned ≡ e = same_Some h.turned e (sym reached ∙ ap (λ cs. after (steps_of h.turns) cs c) (sym (ap (λ ms. serials_of h.turns ++ ms) none ∙ append_nil (serials_of h.turns))) ∙ run) in
          record { ts = h.turns; are = subst (λ (z : Config). TakesTurns D h.turns c z) same h.taken; steps = even }
      by (suc i) many =
          let sum = h.counted in
          absurd (first.none_before (steps_of h.turns) (serials_of h.turns) h.more h.turned (omega (arith, sum, many)) chosen reached (turned-at-update (k + suc zero) (choices ++ []) c (update_step e) r now h))

  first-in-turns : (k : ℕ) (choices : List ℕ) (c e : Config) → ComesTo D c → Evaluates c → IsFirst IsAtUpdate k choices c e → IsInTurns k c e
  first-in-turns k choices c e r now first =
      let there = comes-by D c e k choices r first.is_run in
      let fits = fits-at D runs e there in
      let run = joined k (suc zero) choices [] c e first.is_run ∙ ap (λ o. and_then o e [] (after zero)) (step-updates e fits.not_stopped first.holds) in
      let h = through (k + suc zero) (choices ++ []) c (update_step e) r now run (updated_elsewhere e fits.not_asked) in first_there k choices c e r now first h h.left refl

module _ (D : Design) (the : OfTheSame) (runs : OfRuns D) where
  pub between-two : (c x : Config) → ComesTo D c → Evaluates c → Same c x → IsBetween D c
  between-two c x here now same = record { comes = here; evaluates = now; itself = the.itself c x same }

  pub turns-leave : (us ts : List TurnOf) (c e x y : Config) → ComesTo D c → ComesTo D x → Evaluates c → Evaluates x → Same c x → TakesTurns D ts c e → TakesTurns D us x y → e.processes.runnable ≡ [] → y.processes.runnable ≡ []
      → (steps_of us ≡ steps_of ts) × Same e y
  turns-leave us ts c e x y here there now then_ same one other over also =
      same-turns D the runs us ts c e x y (between-two c x here now same) (between-two x c there then_ (the.flipped c x same)) same one other (λ p. ap (λ ps. holds ps p) over) (λ p. ap (λ ps. holds ps p) also)

  both_through : (n m : ℕ) (choices others : List ℕ) (c e x y : Config) → ComesTo D c → ComesTo D x → Evaluates c → Evaluates x → Same c x → after n choices c ≡ Some e → after m others x ≡ Some y → IsDone e → IsDone y
      → AreThrough (ComesTo D) Same n m e y
  both_through n m choices others c e x y here there now then_ same run other one two =
      let f = through D runs n choices c e here now run (done-outside e one) in
      let g = through D runs m others x y there then_ other (done-outside y two) in
      let t = turns-leave g.turns f.turns c f.turned x g.turned here there now then_ same f.taken g.taken f.nobody g.nobody in
      record {
        k = steps_of f.turns;
        n_left = f.left;
        m_left = g.left;
        own = f.more;
        another = g.more;
        here = f.turned;
        there = g.turned;
        always = comes-to-turned D runs n choices c e here now f;
        always_too = comes-to-turned D runs m others x y there then_ g;
        at_update = turned-at-update D runs n choices c e here now f;
        alike = t.1;
        is_run = f.goes_on;
        is_run_too = g.goes_on;
        sum = sym f.counted;
        sum_too = let sum = g.counted in let even = t.0 in omega (arith, sum, even);
      }

  in_lockstep : AreInLockstep (ComesTo D) Same SameOutcome
  in_lockstep = record {
    steps = λ c x same empty. the.steps c x same (λ now. empty);
    went_too = went-to;
    takes_too = takes-as;
    ended_too = ended-as;
    stack = λ c x same. same.alike.stack;
    goes = λ c here. (fits-at D runs c here).not_stopped;
    goes_on = λ c d here is. comes-further D c d here is;
    stays_empty = λ c d here empty is. runs.stays_empty here.script here.n here.choices c here.is_run empty d is;
    through = both_through;
  }

  -- two whole runs
  pub runs-end-alike : (script : List Command) (n m : ℕ) (choices others : List ℕ) (e y : Config) → after n choices (start D script) ≡ Some e → after m others (start D script) ≡ Some y → IsDone e → IsDone y → (m ≡ n) × Same e y
  runs-end-alike script n m choices others e y one other done also =
      let first = start D script in
      let comes : ComesTo D first = record { script = script; n = 0; choices = []; is_run = refl } in
      ends-alike (ComesTo D) Same SameOutcome in_lockstep n m choices others first e first y comes comes (the.begin D script) refl one other done also

  -- two evaluation phases
  pub phases-end-alike : (k l : ℕ) (choices others : List ℕ) (c e x y : Config) → ComesTo D c → ComesTo D x → Evaluates c → Same c x → IsFirst IsAtUpdate k choices c e → IsFirst IsAtUpdate l others x y → (l ≡ k) × Same e y
  phases-end-alike k l choices others c e x y here there now same one other =
      let then_ : Evaluates x = record { evaluation = ap (λ (z : Config). z.cycle.phase) same.alike.shared ∙ now.evaluation; nobody = same.alike.stack ∙ now.nobody } in
      let f = first-in-turns D runs k choices c e here now one in
      let g = first-in-turns D runs l others x y there then_ other in
      let t = turns-leave g.ts f.ts c e x y here there now then_ same f.are g.are one.holds.none other.holds.none in (sym g.steps ∙ t.0 ∙ f.steps, t.1)
