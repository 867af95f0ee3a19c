-- Where one run is done, another one of the same script goes on until it has as many steps, and is then done.
use Rattle.std.proofs.Common.{◌≡◌, ◌⊎◌, inl, inr, ◌+◌, ◌<◌, ℕ, zero, suc, true, false, List, [], ◌∷◌, Some, refl, sym, ap, ◌∙◌, subst, arith}
use Rattle.std.specs.Prelude.{⊤}
use Rattle.std.proofs.lemmas.Option.{none-some, same_Some}
use Rattle.sim_model.specs.FlatDesign.declared.design.Design.{Design}
use Rattle.sim_model.specs.Configuration.{Config, Cycle, start}
use Rattle.sim_model.specs.Phases.{update_step}
use Rattle.sim_model.specs.Waits.{holds}
use Rattle.sim_model.specs.Steps.{Outcome, went, faulted, takes, ended, step, taking}
use Rattle.sim_model.specs.Runs.{after, and_then}
use Rattle.sim_model.specs.declared.plain.Command.{Command}
use Rattle.sim_model.specs.declared.plain.Phase.TheVariants as phase
use Rattle.laws_order.specs.Turns.{Turn}
use Rattle.laws_order.specs.Evaluated.{steps_of, HasEvaluated}
use Rattle.laws_order.specs.Same.{Same}
use Rattle.laws_order.specs.SameSteps.{SameOutcome}
use Rattle.laws_order.specs.Below.{OfTheSame, OfRuns}
use Rattle.laws_order.specs.Evaluations.{Evaluates, IsDone, GoesOn}
use Rattle.laws_order.proofs.Stepping.{step-updates}
use Rattle.laws_order.proofs.Reached.{ComesTo, comes-further, taken-runs, Takes, fits-at}
use Rattle.laws_order.proofs.InOrder.{takes-too, fronted, ahead}
use Rattle.laws_order.proofs.Progress.{Progress, at_update, between, in_turn, progress, in-turn}
use Rattle.laws_order.proofs.DoneEnds.{takes-evaluates, done-outside, went-on}
use Rattle.laws_order.proofs.DoneOrders.{went-to, takes-as, ended-as, through, comes-to-turned, turned-at-update, between-two, turns-leave}

abbrev IsEnd : Outcome → Type 0
IsEnd (went d) = ⊥
IsEnd (faulted f) = ⊥
IsEnd takes = ⊥
IsEnd ended = ⊤

-- the turn begins where the process was taken to
turn_from : (D : Design) (p n : ℕ) (z b w : Config) → Takes D p n z w → taking z p ≡ Some b → Turn p n b w
turn_from D p n z b w t taken = subst (λ (u : Config). Turn p n u w) (same_Some t.begun b (sym t.taken ∙ taken)) t.turn

module _ (D : Design) (the : OfTheSame) (runs : OfRuns D) where
  -- after m steps of n
  abbrev Goes : ℕ → ℕ → Config → Type 0
  Goes n m y = ((m < n) × GoesOn (step y)) ⊎ ((m ≡ n) × (step y ≡ ended))

  abbrev UpTo : ℕ → Type 0
  UpTo k =
      (n m : ℕ) (choices others : List ℕ) (c e x y : Config) → n < k → ComesTo D c → ComesTo D x → Same c x → c.processes.stack ≡ [] → after n choices c ≡ Some e → after m others x ≡ Some y → IsDone e → Goes n m y

  further : (k n m : ℕ) (y : Config) → Goes n m y → Goes (k + n) (k + m) y
  further k n m y (inl (less, goes)) = inl (omega (arith, less), goes)
  further k n m y (inr (even, over_)) = inr (ap (λ i. k + i) even, over_)

  module _ (k : ℕ) (shorter : UpTo k) where
    both_went : (n m : ℕ) (choices others : List ℕ) (c e x y d z : Config) → n < suc k → ComesTo D c → ComesTo D x → step c ≡ went d → step x ≡ went z → Same d z → c.processes.stack ≡ [] → after n choices c ≡ Some e → after m others x ≡ Some y → IsDone e → Goes n m y
    both_went zero m [] others c e x y d z below here there is too same empty run other done = absurd (went-on c d is (subst IsDone (sym (same_Some c e run)) done))
    both_went zero m (p ∷ choices) others c e x y d z below here there is too same empty run other done = absurd (none-some e run)
    both_went (suc n) zero choices [] c e x y d z below here there is too same empty run other done =
        inl (omega arith, subst (λ (w : Config). GoesOn (step w)) (same_Some x y other) (subst GoesOn (sym too) tt))
    both_went (suc n) zero choices (p ∷ others) c e x y d z below here there is too same empty run other done = absurd (none-some y other)
    both_went (suc n) (suc m) choices others c e x y d z below here there is too same empty run other done =
        one_more (shorter n m choices others d e z y (omega (arith, below)) (comes-further D c d here is) (comes-further D x z there too) same (runs.stays_empty here.script here.n here.choices c here.is_run empty d is)
        (sym (ap (λ o. and_then o c choices (after n)) is) ∙ run) (sym (ap (λ o. and_then o x others (after m)) too) ∙ other) done)
      where
        one_more : Goes n m y → Goes (suc n) (suc m) y
        one_more (inl (less, goes)) = inl (omega (arith, less), goes)
        one_more (inr (even, over_)) = inr (ap suc even, over_)

    both_end : (n m : ℕ) (choices others : List ℕ) (c e x y : Config) → step c ≡ ended → step x ≡ ended → after n choices c ≡ Some e → after m others x ≡ Some y → Goes n m y
    both_end (suc n) m choices others c e x y is too run other = absurd (none-some e (sym (ap (λ o. and_then o c choices (after n)) is) ∙ run))
    both_end zero (suc m) choices others c e x y is too run other = absurd (none-some y (sym (ap (λ o. and_then o x others (after m)) too) ∙ other))
    both_end zero zero choices [] c e x y is too run other = inr (refl, subst (λ (w : Config). step w ≡ ended) (same_Some x y other) too)
    both_end zero zero choices (p ∷ others) c e x y is too run other = absurd (none-some y other)

    -- the one is through with an evaluation phase, in which the other one is, or was
    module _ (n m : ℕ) (choices others : List ℕ) (c e x y : Config) (below : n < suc k) (here : ComesTo D c) (there : ComesTo D x) (now : Evaluates c) (then_ : Evaluates x) (same : Same c x) (done : IsDone e) (h : HasEvaluated D c n choices e) where
      over_here : (p : ℕ) → holds h.turned.processes.runnable p ≡ false
      over_here p = ap (λ ps. holds ps p) h.nobody

      -- steps are left behind it
      some_left : (left : ℕ) → h.left ≡ left → 0 < h.left
      some_left (suc i) is = omega (arith, is)
      some_left zero is = absurd (done-outside e done (by h.more h.goes_on))
        where
          by : (more : List ℕ) → after h.left more h.turned ≡ Some e → e.cycle.phase ≡ phase.Evaluate
          by [] run = subst (λ (z : Config). z.cycle.phase ≡ phase.Evaluate) (same_Some h.turned e (sym (ap (λ i. after i [] h.turned) is) ∙ run)) (ap (λ (u : Cycle). u.phase) h.cycle ∙ now.evaluation)
          by (p ∷ more) run = absurd (none-some e (sym (ap (λ i. after i (p ∷ more) h.turned) is) ∙ run))

      far : Progress D x m y → Goes n m y
      far (at_update us z left more turns comes at none run counted) =
          let t = turns-leave D the runs us h.turns c h.turned x z here there now then_ same h.taken turns h.nobody none in
          let over_turned = turned-at-update D runs n choices c e here now h in
          let updates = step-updates h.turned (fits-at D runs h.turned (comes-to-turned D runs n choices c e here now h)).not_stopped over_turned in
          let w = went-to (update_step h.turned) (step z) (subst (λ o. SameOutcome o (step z)) updates (the.steps h.turned z t.1 (λ is. h.empty))) in
          let sum = h.counted in
          let later =
          both_went h.left left h.more more h.turned e z y (update_step h.turned) w.0 (omega (arith, below, sum)) (comes-to-turned D runs n choices c e here now h) comes updates w.1 w.2 h.empty h.goes_on run done in
          let even = t.0 in
          let fitting : m ≡ steps_of h.turns + left = omega (arith, counted, even) in
          subst (λ i. Goes i m y) sum (subst (λ i. Goes (steps_of h.turns + h.left) i y) (sym fitting) (further (steps_of h.turns) h.left left y later))
      far (between us turns is counted) =
          let a = ahead D the runs us h.turns c h.turned x y (between-two D the runs c x here now same) (between-two D the runs x c there then_ (the.flipped c x same)) same h.taken turns over_here in
          let sum = h.counted in
          let some = some_left h.left refl in let steps = a.steps in inl (omega (arith, sum, some, steps, counted), subst GoesOn (sym is) tt)
      far (in_turn us z b p j turns comes at taken comes_b run top counted) =
          let a = ahead D the runs us h.turns c h.turned x z (between-two D the runs c x here now same) (between-two D the runs x c there then_ (the.flipped c x same)) same h.taken turns over_here in
          let runs_there : holds a.now.processes.runnable p ≡ true = sym (a.same_now.alike.runnable p) ∙ taken-runs z b p taken in
          let f = fronted D the runs p a.rest a.now a.end a.between a.more runs_there (a.same_end.alike.runnable p ∙ over_here p) in
          let g = takes-too D the runs p f.n a.now f.next z a.between.comes comes a.same_now f.first in
          let on = in-turn D runs p f.n j b g.0 y (turn_from D p f.n z b g.0 g.1 taken) comes_b run top in
          let sum = h.counted in let steps = a.steps in let rest = f.steps in let less = on.0 in inl (omega (arith, sum, steps, rest, less, counted), on.1)

    by_step : (n m : ℕ) (choices others : List ℕ) (c e x y : Config) → n < suc k → ComesTo D c → ComesTo D x → Same c x → c.processes.stack ≡ [] → after n choices c ≡ Some e → after m others x ≡ Some y → IsDone e → (o : Outcome) → step c ≡ o
        → SameOutcome o (step x) → Goes n m y
    by_step n m choices others c e x y below here there same empty run other done (went d) is both =
        let w = went-to d (step x) both in both_went n m choices others c e x y d w.0 below here there is w.1 w.2 empty run other done
    by_step (suc n) m choices others c e x y below here there same empty run other done (faulted f) is both = absurd (none-some e (sym (ap (λ o. and_then o c choices (after n)) is) ∙ run))
    by_step zero m [] others c e x y below here there same empty run other done (faulted f) is both = absurd (subst IsEnd (sym (subst IsDone (sym (same_Some c e run)) done).is_ended ∙ is) tt)
    by_step zero m (p ∷ choices) others c e x y below here there same empty run other done (faulted f) is both = absurd (none-some e run)
    by_step n m choices others c e x y below here there same empty run other done takes is both =
        let now : Evaluates c = record { evaluation = takes-evaluates c is; nobody = empty } in
        let then_ : Evaluates x = record { evaluation = takes-evaluates x (takes-as (step x) both); nobody = same.alike.stack ∙ empty } in
        far n m choices others c e x y below here there now then_ same done (through D runs n choices c e here now run (done-outside e done)) (progress D runs m others x y there then_ other)
    by_step n m choices others c e x y below here there same empty run other done ended is both = both_end n m choices others c e x y is (ended-as (step x) both) run other

    longer : UpTo (suc k)
    longer n m choices others c e x y below here there same empty run other done =
        by_step n m choices others c e x y below here there same empty run other done (step c) refl (the.steps c x same (λ is. empty))

  up_to : (k : ℕ) → UpTo k
  up_to zero n m choices others c e x y below here there same empty run other done = absurd (omega (arith, below))
  up_to (suc k) n m choices others c e x y below here there same empty run other done = longer k (up_to k) n m choices others c e x y below here there same empty run other done

  -- two runs of one script
  pub runs-go-on : (script : List Command) (n m : ℕ) (choices others : List ℕ) (e y : Config) → after n choices (start D script) ≡ Some e → IsDone e → after m others (start D script) ≡ Some y → ((m < n) × GoesOn (step y)) ⊎ ((m ≡ n) × IsDone y)
  runs-go-on script n m choices others e y one done other =
      let first = start D script in
      let comes : ComesTo D first = record { script = script; n = 0; choices = []; is_run = refl } in
      by (up_to (suc n) n m choices others first e first y (omega arith) comes comes (the.begin D script) refl one other done)
    where
      by : Goes n m y → ((m < n) × GoesOn (step y)) ⊎ ((m ≡ n) × IsDone y)
      by (inl h) = inl h
      by (inr (even, over_)) =
          inr (even, record { is_ended = over_; not_stopped = (fits-at D runs y (record { script = script; n = m; choices = others; is_run = other })).not_stopped })
