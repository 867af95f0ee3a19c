-- The configurations of the runs of a design that keeps the rule on the order of processes, between the turns of its processes.
use Rattle.std.proofs.Common.{◌≡◌, ◌≢◌, ◌+◌, ℕ, zero, suc, Bool, true, false, List, [], ◌∷◌, ◌++◌, Some, refl, sym, ap, ◌∙◌, subst, true≢false}
use Rattle.std.proofs.lemmas.Option.{none-some}
use Rattle.sim_model.specs.FlatDesign.declared.design.Design.{Design}
use Rattle.sim_model.specs.Configuration.{Config, Cycle, start}
use Rattle.sim_model.specs.Waits.{holds, without}
use Rattle.sim_model.specs.Steps.{went, takes, step, taken_if, taking}
use Rattle.sim_model.specs.Runs.{after, and_then}
use Rattle.sim_model.specs.declared.plain.Command.{Command}
use Rattle.order_free.specs.Free.{Uses, Free}
use Rattle.laws_order.specs.Alongside.{AreUnheard}
use Rattle.laws_order.specs.Turns.{Turn, over, goes_on, TakesTurn}
use Rattle.laws_order.specs.Fits.{Fits}
use Rattle.laws_order.specs.Below.{OfRuns}
use Rattle.laws_order.specs.Evaluations.{Evaluates}
use Rattle.laws_order.proofs.Stepping.{step-takes}
use Rattle.laws_runs.proofs.Splits.{joined}

-- a run of this design comes to it
pub record ComesTo (D : Design) (c : Config) : Type 0 where
  pub script : List Command
  pub n : ℕ
  pub choices : List ℕ
  pub is_run : after n choices (start D script) ≡ Some c

pub comes-by : (D : Design) (c d : Config) (m : ℕ) (own : List ℕ) → ComesTo D c → after m own c ≡ Some d → ComesTo D d
comes-by D c d m own r more = record { script = r.script; n = r.n + m; choices = r.choices ++ own; is_run = joined r.n m r.choices own (start D r.script) c r.is_run ∙ more }

pub comes-further : (D : Design) (c d : Config) → ComesTo D c → step c ≡ went d → ComesTo D d
comes-further D c d r is = comes-by D c d (suc zero) [] r (ap (λ o. and_then o c [] (after zero)) is)

-- ---- a taking

pub taken-runs : (c d : Config) (p : ℕ) → taking c p ≡ Some d → holds c.processes.runnable p ≡ true
taken-runs c d p is = by (holds c.processes.runnable p) refl is
  where
    by : (b : Bool) → holds c.processes.runnable p ≡ b → taken_if c p b ≡ Some d → holds c.processes.runnable p ≡ true
    by true there at = there
    by false there at = absurd (none-some d at)

taking_among : (c : Config) (p : ℕ) (rs : List ℕ) → c.processes.runnable ≡ rs → holds rs p ≡ true → c.cycle.stopped ≡ false → Evaluates c → step c ≡ takes
taking_among c p [] some there goes now = absurd (true≢false (sym there))
taking_among c p (q ∷ qs) some there goes now = step-takes c q qs goes now some

-- ---- turns

turn_empties : (p n : ℕ) (c e : Config) → Turn p n c e → e.processes.stack ≡ []
turn_empties p _ _ _ (over c empty) = empty
turn_empties p _ _ _ (goes_on n c d e alone is more) = turn_empties p n d e more

abbrev pub Takes : Design → ℕ → ℕ → Config → Config → Type 0
Takes D p n c e = TakesTurn (Uses D p) p n c e

module _ (D : Design) (runs : OfRuns D) where
  pub fits-at : (c : Config) → ComesTo D c → Fits D c
  fits-at c r = runs.fits r.script r.n r.choices c r.is_run

  pub unheard-at : (c : Config) → ComesTo D c → (p : ℕ) → AreUnheard p c
  unheard-at c r = runs.unheard r.script r.n r.choices c r.is_run

  pub free-at : (c : Config) → ComesTo D c → Free c.design
  free-at c r = subst Free (sym (fits-at c r).design) runs.free

  pub taking-steps : (c d : Config) (p : ℕ) → ComesTo D c → Evaluates c → taking c p ≡ Some d → step c ≡ takes
  taking-steps c d p r now taken = taking_among c p c.processes.runnable refl (taken-runs c d p taken) (fits-at c r).not_stopped now

  -- what a turn leaves
  pub record IsLeft (p n : ℕ) (c e : Config) : Type 0 where
    pub comes : ComesTo D e
    pub evaluates : Evaluates e
    pub runnable : e.processes.runnable ≡ without c.processes.runnable p

  pub turn-leaves : (p n : ℕ) (c e : Config) → ComesTo D c → Evaluates c → Takes D p n c e → IsLeft p n c e
  turn-leaves p n c e r now t =
      let takes_it = taking-steps c t.begun p r now t.taken in
      let run = runs.turns_run r.script r.n r.choices c r.is_run takes_it p n e t in
      let kept = runs.wake_nobody r.script r.n r.choices c r.is_run takes_it p n e t in
      record {
        comes = comes-by D c e (suc n) (p ∷ []) r run;
        evaluates = record { evaluation = ap (λ (y : Cycle). y.phase) kept.1 ∙ now.evaluation; nobody = turn_empties p n t.begun e t.turn };
        runnable = kept.0;
      }
