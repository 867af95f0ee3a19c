-- What the step is in an evaluation phase.
use Rattle.std.proofs.Common.{◌≡◌, ℕ, false, cond, List, [], ◌∷◌, ap, ◌∙◌, subst}
use Rattle.std.specs.Prelude.{⊤}
use Rattle.sim_model.specs.Configuration.{Config}
use Rattle.sim_model.specs.Phases.{update_step}
use Rattle.sim_model.specs.Steps.{went, takes, ended, evaluate, step_in, step}
use Rattle.sim_model.specs.declared.plain.Phase.TheVariants as phase
use Rattle.laws_order.specs.Evaluations.{Evaluates, IsAtUpdate}

pub evaluated : (c : Config) → c.cycle.stopped ≡ false → c.cycle.phase ≡ phase.Evaluate → step c ≡ evaluate c c.processes.stack c.processes.runnable
evaluated c goes now = ap (λ b. cond b ended (step_in c c.cycle.phase)) goes ∙ ap (step_in c) now

pub step-takes : (c : Config) (q : ℕ) (qs : List ℕ) → c.cycle.stopped ≡ false → Evaluates c → c.processes.runnable ≡ q ∷ qs → step c ≡ takes
step-takes c q qs goes e some = evaluated c goes e.evaluation ∙ ap (λ ps. evaluate c ps c.processes.runnable) e.nobody ∙ ap (λ ps. evaluate c [] ps) some

pub step-updates : (c : Config) → c.cycle.stopped ≡ false → IsAtUpdate c → step c ≡ went (update_step c)
step-updates c goes u = evaluated c goes u.evaluates.evaluation ∙ ap (λ ps. evaluate c ps c.processes.runnable) u.evaluates.nobody ∙ ap (λ ps. evaluate c [] ps) u.none

abbrev HasSome : List ℕ → Type 0
HasSome [] = ⊥
HasSome (q ∷ qs) = ⊤

pub no-cons : (p : ℕ) (ps : List ℕ) → p ∷ ps ≡ [] → ⊥
no-cons p ps is = subst HasSome is tt
