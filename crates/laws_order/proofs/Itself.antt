-- What a run comes to with no process in its turn is the same as itself.
use Rattle.std.proofs.Common.{◌≡◌, ◌⊎◌, inl, inr, ◌<◌, ℕ, zero, suc, List, [], ◌∷◌, Option, Some, None, refl, sym, ap, ◌∙◌, subst, arith}
use Rattle.std.proofs.lemmas.Option.{none-some, same_Some}
use Rattle.sim_model.specs.FlatDesign.declared.design.Design.{Design}
use Rattle.sim_model.specs.Configuration.{Config, start}
use Rattle.sim_model.specs.Steps.{Outcome, went, faulted, takes, ended, step, taking}
use Rattle.sim_model.specs.Runs.{after, and_then, took}
use Rattle.sim_model.specs.declared.plain.Command.{Command}
use Rattle.laws_order.specs.Turned.{IsInTurn, HasTurned}
use Rattle.laws_order.specs.Same.{Same}
use Rattle.laws_order.specs.SameSteps.{SameOutcome}
use Rattle.laws_order.specs.Below.{OfTheSame, OfRuns}
use Rattle.laws_order.specs.Evaluations.{Evaluates}
use Rattle.laws_order.proofs.Stepping.{no-cons}
use Rattle.laws_order.proofs.Reached.{ComesTo, comes-further, turn-leaves}
use Rattle.laws_order.proofs.InOrder.{takes-too}
use Rattle.laws_order.proofs.DoneEnds.{takes-evaluates}

module _ (D : Design) (the : OfTheSame) (runs : OfRuns D) where
  -- of runs of fewer than k steps, from what is the same as itself
  abbrev Within : ℕ → Type 0
  Within k = (n : ℕ) (choices : List ℕ) (c e : Config) → n < k → ComesTo D c → Same c c → c.processes.stack ≡ [] → after n choices c ≡ Some e → e.processes.stack ≡ [] → Same e e

  module _ (k : ℕ) (shorter : Within k) where
    -- a process was taken, and has made its turn
    turned_on : (n p : ℕ) (choices : List ℕ) (c e : Config) → n < k → ComesTo D c → Same c c → c.processes.stack ≡ [] → step c ≡ takes → HasTurned D p c n choices e → e.processes.stack ≡ [] → Same e e
    turned_on n p choices c e below here same empty is h end =
        let now : Evaluates c = record { evaluation = takes-evaluates c is; nobody = empty } in
        let left = turn-leaves D runs p h.steps c h.turned here now h.turn in
        let g = takes-too D the runs p h.steps c h.turned c here here same h.turn in
        let sum = h.counted in
        shorter h.left choices h.turned e (omega (arith, below, sum)) left.comes (the.itself h.turned g.0 g.2) left.evaluates.nobody h.goes_on end

    on_taken : (n p : ℕ) (choices : List ℕ) (c e : Config) → n < k → ComesTo D c → Same c c → c.processes.stack ≡ [] → step c ≡ takes → (b : Option Config) → taking c p ≡ b → took b (after n choices) ≡ Some e → e.processes.stack ≡ [] → Same e e
    on_taken n p choices c e below here same empty is None at run end = absurd (none-some e run)
    on_taken n p choices c e below here same empty is (Some b) at run end = by (runs.take_turns here.script here.n here.choices c here.is_run is p b at n choices e run)
      where
        by : IsInTurn p b choices e ⊎ HasTurned D p c n choices e → Same e e
        by (inl t) = absurd (no-cons p [] (sym t.alone ∙ end))
        by (inr h) = turned_on n p choices c e below here same empty is h end

    one_more : (n : ℕ) (choices : List ℕ) (c e : Config) → n < k → ComesTo D c → Same c c → c.processes.stack ≡ [] → (o : Outcome) → step c ≡ o → SameOutcome o o → and_then o c choices (after n) ≡ Some e → e.processes.stack ≡ [] → Same e e
    one_more n choices c e below here same empty (went d) is both run end = shorter n choices d e below (comes-further D c d here is) both (runs.stays_empty here.script here.n here.choices c here.is_run empty d is) run end
    one_more n choices c e below here same empty (faulted f) is both run end = absurd (none-some e run)
    one_more n [] c e below here same empty takes is both run end = absurd (none-some e run)
    one_more n (p ∷ choices) c e below here same empty takes is both run end = on_taken n p choices c e below here same empty is (taking c p) refl run end
    one_more n choices c e below here same empty ended is both run end = absurd (none-some e run)

    longer : Within (suc k)
    longer zero [] c e below here same empty run end = subst (λ (z : Config). Same z z) (same_Some c e run) same
    longer zero (p ∷ choices) c e below here same empty run end = absurd (none-some e run)
    longer (suc n) choices c e below here same empty run end = one_more n choices c e (omega (arith, below)) here same empty (step c) refl (the.steps c c same (λ now. empty)) run end

  within : (k : ℕ) → Within k
  within zero n choices c e below here same empty run end = absurd (omega (arith, below))
  within (suc k) n choices c e below here same empty run end = longer k (within k) n choices c e below here same empty run end

  pub runs-come-to-themselves : (script : List Command) (n : ℕ) (choices : List ℕ) (c : Config) → after n choices (start D script) ≡ Some c → c.processes.stack ≡ [] → Same c c
  runs-come-to-themselves script n choices c run end =
      within (suc n) n choices (start D script) c (omega arith) (record { script = script; n = 0; choices = []; is_run = refl }) (the.begin D script) refl run end
