-- Two runs from configurations that are alike, in lockstep but within evaluation phases, come to their ends after as many steps.
use Rattle.std.proofs.Common.{◌≡◌, ◌+◌, ◌<◌, ℕ, zero, suc, Bool, true, false, cond, List, [], ◌∷◌, Some, refl, sym, ap, ◌∙◌, subst, arith}
use Rattle.std.specs.Prelude.{⊤, Result, Ok, Err}
use Rattle.std.proofs.lemmas.Option.{none-some, same_Some}
use Rattle.sim_model.specs.FlatDesign.declared.faults.RunFault.{RunFault}
use Rattle.sim_model.specs.Configuration.{Config}
use Rattle.sim_model.specs.Statements.{statement_step}
use Rattle.sim_model.specs.Phases.{update_step}
use Rattle.sim_model.specs.Steps.{Outcome, went, faulted, takes, ended, as_outcome, next_command, evaluate, step_in, step}
use Rattle.sim_model.specs.Runs.{after, and_then}
use Rattle.sim_model.specs.declared.plain.Phase.{Phase}
use Rattle.sim_model.specs.declared.plain.Phase.TheVariants as phase
use Rattle.sim_model.specs.declared.plain.Command.{Command}
use Rattle.laws_order.specs.Evaluations.{Evaluates, IsAtUpdate, IsDone}
use Rattle.laws_order.proofs.Stepping.{evaluated, step-updates}

-- ---- outcomes are not one another

abbrev IsTaking : Outcome → Type 0
IsTaking (went d) = ⊥
IsTaking (faulted f) = ⊥
IsTaking takes = ⊤
IsTaking ended = ⊥

abbrev IsEnding : Outcome → Type 0
IsEnding (went d) = ⊥
IsEnding (faulted f) = ⊥
IsEnding takes = ⊥
IsEnding ended = ⊤

-- a process is taken in an evaluation phase alone
result_takes : (r : Result Config RunFault) → IsTaking (as_outcome r) → ⊥
result_takes (Ok d) h = h
result_takes (Err f) h = h

command_takes : (c : Config) (ks : List Command) → IsTaking (next_command c ks) → ⊥
command_takes c [] h = h
command_takes c (k ∷ ks) h = result_takes _ h

phase_takes : (c : Config) (ph : Phase) → c.cycle.phase ≡ ph → IsTaking (step_in c ph) → c.cycle.phase ≡ phase.Evaluate
phase_takes c phase.Idle now h = absurd (command_takes c c.script h)
phase_takes c phase.Start now h = absurd h
phase_takes c phase.Evaluate now h = now
phase_takes c phase.Notify now h = absurd h
phase_takes c phase.Timed now h = absurd h

stopped_takes : (c : Config) (b : Bool) → IsTaking (cond b ended (step_in c c.cycle.phase)) → c.cycle.phase ≡ phase.Evaluate
stopped_takes c true h = absurd h
stopped_takes c false h = phase_takes c c.cycle.phase refl h

pub takes-evaluates : (c : Config) → step c ≡ takes → c.cycle.phase ≡ phase.Evaluate
takes-evaluates c is = stopped_takes c c.cycle.stopped (subst IsTaking (sym is) tt)

-- and a session ends outside of them
result_ends : (r : Result Config RunFault) → IsEnding (as_outcome r) → ⊥
result_ends (Ok d) h = h
result_ends (Err f) h = h

evaluation_ends : (c : Config) (stack runnable : List ℕ) → IsEnding (evaluate c stack runnable) → ⊥
evaluation_ends c (p ∷ stack) runnable h = result_ends (statement_step c p) h
evaluation_ends c [] (q ∷ runnable) h = h
evaluation_ends c [] [] h = h

pub done-outside : (c : Config) → IsDone c → c.cycle.phase ≡ phase.Evaluate → ⊥
done-outside c done now = evaluation_ends c c.processes.stack c.processes.runnable (subst IsEnding (sym done.is_ended ∙ evaluated c done.not_stopped now) tt)

pub went-on : (c d : Config) → step c ≡ went d → IsDone c → ⊥
went-on c d is done = subst IsEnding (sym done.is_ended ∙ is) tt

-- ---- what is asked of two configurations that are alike, where I is always so

-- both runs came to the update phase after as many steps
pub record AreThrough (I : Config → Type 0) (Alike : Config → Config → Type 0) (n m : ℕ) (e y : Config) : Type 0 where
  pub k : ℕ
  pub n_left : ℕ
  pub m_left : ℕ
  pub own : List ℕ
  pub another : List ℕ
  pub here : Config
  pub there : Config
  pub always : I here
  pub always_too : I there
  pub at_update : IsAtUpdate here
  pub alike : Alike here there
  pub is_run : after n_left own here ≡ Some e
  pub is_run_too : after m_left another there ≡ Some y
  pub sum : n ≡ k + n_left
  pub sum_too : m ≡ k + m_left

pub record AreInLockstep (I : Config → Type 0) (Alike : Config → Config → Type 0) (Both : Outcome → Outcome → Type 0) : Type 0 where
  pub steps : (c x : Config) → Alike c x → c.processes.stack ≡ [] → Both (step c) (step x)
  pub went_too : (d : Config) (o : Outcome) → Both (went d) o → (z : Config) × (o ≡ went z) × Alike d z
  pub takes_too : (o : Outcome) → Both takes o → o ≡ takes
  pub ended_too : (o : Outcome) → Both ended o → o ≡ ended
  pub stack : (c x : Config) → Alike c x → x.processes.stack ≡ c.processes.stack
  pub goes : (c : Config) → I c → c.cycle.stopped ≡ false
  pub goes_on : (c d : Config) → I c → step c ≡ went d → I d
  pub stays_empty : (c d : Config) → I c → c.processes.stack ≡ [] → step c ≡ went d → d.processes.stack ≡ []
  pub through : (n m : ℕ) (choices others : List ℕ) (c e x y : Config) → I c → I x → Evaluates c → Evaluates x → Alike c x → after n choices c ≡ Some e → after m others x ≡ Some y → IsDone e → IsDone y → AreThrough I Alike n m e y

module _ (I : Config → Type 0) (Alike : Config → Config → Type 0) (Both : Outcome → Outcome → Type 0) (lock : AreInLockstep I Alike Both) where
  abbrev Ends : ℕ → Type 0
  Ends k =
      (n m : ℕ) (choices others : List ℕ) (c e x y : Config) → n < k → I c → I x → Alike c x → c.processes.stack ≡ [] → after n choices c ≡ Some e → after m others x ≡ Some y → IsDone e → IsDone y
      → (m ≡ n) × Alike e y

  module _ (k : ℕ) (shorter : Ends k) where
    -- both go on by a step that is no taking
    both_went : (n m : ℕ) (choices others : List ℕ) (c e x y d z : Config) → n < suc k → I c → I x → step c ≡ went d → step x ≡ went z → Alike d z → c.processes.stack ≡ [] → after n choices c ≡ Some e → after m others x ≡ Some y
        → IsDone e → IsDone y → (m ≡ n) × Alike e y
    both_went zero m [] others c e x y d z below here there is too alike empty run other one two = absurd (went-on c d is (subst IsDone (sym (same_Some c e run)) one))
    both_went zero m (p ∷ choices) others c e x y d z below here there is too alike empty run other one two = absurd (none-some e run)
    both_went (suc n) zero choices [] c e x y d z below here there is too alike empty run other one two = absurd (went-on x z too (subst IsDone (sym (same_Some x y other)) two))
    both_went (suc n) zero choices (p ∷ others) c e x y d z below here there is too alike empty run other one two = absurd (none-some y other)
    both_went (suc n) (suc m) choices others c e x y d z below here there is too alike empty run other one two =
        let g =
        shorter n m choices others d e z y (omega (arith, below)) (lock.goes_on c d here is) (lock.goes_on x z there too) alike (lock.stays_empty c d here empty is) (sym (ap (λ o. and_then o c choices (after n)) is) ∙ run)
        (sym (ap (λ o. and_then o x others (after m)) too) ∙ other) one two in
        (ap suc g.0, g.1)

    both_end : (n m : ℕ) (choices others : List ℕ) (c e x y : Config) → step c ≡ ended → step x ≡ ended → Alike c x → after n choices c ≡ Some e → after m others x ≡ Some y → (m ≡ n) × Alike e y
    both_end (suc n) m choices others c e x y is too alike run other = absurd (none-some e (sym (ap (λ o. and_then o c choices (after n)) is) ∙ run))
    both_end zero m (p ∷ choices) others c e x y is too alike run other = absurd (none-some e run)
    both_end zero (suc m) [] others c e x y is too alike run other = absurd (none-some y (sym (ap (λ o. and_then o x others (after m)) too) ∙ other))
    both_end zero zero [] (p ∷ others) c e x y is too alike run other = absurd (none-some y other)
    both_end zero zero [] [] c e x y is too alike run other = (refl, subst (Alike e) (same_Some x y other) (subst (λ (w : Config). Alike w x) (same_Some c e run) alike))

    -- both take processes: turns come next in both, and then the update phase
    both_take : (n m : ℕ) (choices others : List ℕ) (c e x y : Config) → n < suc k → I c → I x → step c ≡ takes → step x ≡ takes → Alike c x → c.processes.stack ≡ [] → after n choices c ≡ Some e → after m others x ≡ Some y → IsDone e
        → IsDone y → (m ≡ n) × Alike e y
    both_take n m choices others c e x y below here there is too alike empty run other one two =
        let now : Evaluates c = record { evaluation = takes-evaluates c is; nobody = empty } in
        let then_ : Evaluates x = record { evaluation = takes-evaluates x too; nobody = lock.stack c x alike ∙ empty } in
        let t = lock.through n m choices others c e x y here there now then_ alike run other one two in
        let updates = step-updates t.here (lock.goes t.here t.always) t.at_update in
        let both = lock.steps t.here t.there t.alike t.at_update.evaluates.nobody in
        let w = lock.went_too (update_step t.here) (step t.there) (subst (λ o. Both o (step t.there)) updates both) in
        let sum = t.sum in
        let later =
        both_went t.n_left t.m_left t.own t.another t.here e t.there y (update_step t.here) w.0 (omega (arith, below, sum)) t.always t.always_too updates w.1 w.2 t.at_update.evaluates.nobody t.is_run t.is_run_too one two in
        (let sums = later.0 in let others_ = t.sum_too in omega (arith, sum, sums, others_), later.1)

    by_step : (n m : ℕ) (choices others : List ℕ) (c e x y : Config) → n < suc k → I c → I x → Alike c x → c.processes.stack ≡ [] → after n choices c ≡ Some e → after m others x ≡ Some y → IsDone e → IsDone y
        → (o : Outcome) → step c ≡ o → Both o (step x) → (m ≡ n) × Alike e y
    by_step n m choices others c e x y below here there alike empty run other one two (went d) is both =
        let w = lock.went_too d (step x) both in both_went n m choices others c e x y d w.0 below here there is w.1 w.2 empty run other one two
    by_step (suc n) m choices others c e x y below here there alike empty run other one two (faulted f) is both = absurd (none-some e (sym (ap (λ o. and_then o c choices (after n)) is) ∙ run))
    by_step zero m [] others c e x y below here there alike empty run other one two (faulted f) is both =
        absurd (subst IsEnding (sym (subst IsDone (sym (same_Some c e run)) one).is_ended ∙ is) tt)
    by_step zero m (p ∷ choices) others c e x y below here there alike empty run other one two (faulted f) is both = absurd (none-some e run)
    by_step n m choices others c e x y below here there alike empty run other one two takes is both =
        both_take n m choices others c e x y below here there is (lock.takes_too (step x) both) alike empty run other one two
    by_step n m choices others c e x y below here there alike empty run other one two ended is both = both_end n m choices others c e x y is (lock.ended_too (step x) both) alike run other

    longer : Ends (suc k)
    longer n m choices others c e x y below here there alike empty run other one two =
        by_step n m choices others c e x y below here there alike empty run other one two (step c) refl (lock.steps c x alike empty)

  ends_below : (k : ℕ) → Ends k
  ends_below zero n m choices others c e x y below here there alike empty run other one two = absurd (omega (arith, below))
  ends_below (suc k) n m choices others c e x y below here there alike empty run other one two = longer k (ends_below k) n m choices others c e x y below here there alike empty run other one two

  pub ends-alike : (n m : ℕ) (choices others : List ℕ) (c e x y : Config) → I c → I x → Alike c x → c.processes.stack ≡ [] → after n choices c ≡ Some e → after m others x ≡ Some y → IsDone e → IsDone y → (m ≡ n) × Alike e y
  ends-alike n m choices others c e x y here there alike empty run other one two = ends_below (suc n) n m choices others c e x y (omega arith) here there alike empty run other one two
