-- Each step and each taking keeps what each of its moves keeps.
use Rattle.std.proofs.Common.{◌≡◌, ℕ, suc, Bool, true, false, cond, List, [], ◌∷◌, ◌++◌, Option, Some, None, refl, sym, ◌∙◌, subst, true≢false}
use Rattle.std.specs.Prelude.{Ok}
use Rattle.std.specs.Result.{IfOk}
use Rattle.std.proofs.lemmas.Option.{none-some, same_Some}
use Rattle.sim_model.specs.FlatDesign.declared.design.ProcessPart.{ProcessPart}
use Rattle.sim_model.specs.Configuration.{Config, Instance, turn, change_instance, instance_at, with_runnable, with_stack, with_told}
use Rattle.sim_model.specs.Waits.{freed, without, holds}
use Rattle.sim_model.specs.Control.{begins}
use Rattle.sim_model.specs.Statements.{settled_in, statement_step}
use Rattle.sim_model.specs.Phases.{initialize_each}
use Rattle.sim_model.specs.Steps.{step, turn_line, instance_taken, taken_if, taking}
use Rattle.laws_runs.specs.Moves.{time_moved, Moves, StepMoves, in_turn, between, initializing, moving_now}
use Rattle.laws_runs.proofs.MovesKeep.{moves-keep}
use Rattle.laws_runs.proofs.Changes.{change-here}
use Rattle.laws_runs.proofs.GoalMoves.{Sound}
use Rattle.laws_runs.proofs.GoalSteps.{IfWent, goes-to, settled-sound}
use Rattle.laws_runs.proofs.GoalParts.{Parts, parts, Kept, Alike, IsKept, IsSettled, IsKeptBetween, IsKeptByTakings}
use Rattle.laws_runs.proofs.KeptMoves.{each-between}
use Rattle.laws_runs.proofs.KeptStatements.{moves-kept}

module _ (Q : Parts → Type 0) (between_moves : IsKeptBetween Q) where
  kept-if : (b : Bool) (c d : Config) → Kept Q c → Kept Q d → Kept Q (cond b c d)
  kept-if true c d one two = one
  kept-if false c d one two = two

  same-kept : (c : Config) (q : ℕ) (f : Instance → Instance) → ((i : Instance) → Alike i (f i)) → Kept Q c → Kept Q (change_instance c q f)
  same-kept c q f alike s = between_moves.same (parts c) q f alike s

  initialize_kept : (p : ℕ) (xs : List ProcessPart) (c : Config) → Kept Q c → Kept Q (initialize_each p xs c)
  initialize_kept p [] c s = s
  initialize_kept p (x ∷ xs) c s =
      kept-if x.dont_initialize (initialize_each (suc p) xs c) (initialize_each (suc p) xs (with_runnable (change_instance c p freed) (c.processes.runnable ++ p ∷ [])))
      (initialize_kept (suc p) xs c s)
      (initialize_kept (suc p) xs (with_runnable (change_instance c p freed) (c.processes.runnable ++ p ∷ [])) (same-kept c p freed (λ i. record { kind = refl; home = refl; code = refl; residual = refl; started = refl; ended = refl }) s))

  between-kept : (c d : Config) → Moves None c d → Kept Q c → Kept Q d
  between-kept c d ms h = moves-keep None (Kept Q) (each-between Q between_moves) c d ms h

  -- ---- a step: in a turn by what is told of it, and else by its moves

  step_kept : (c d : Config) → StepMoves c d → ((p : ℕ) (rest : List ℕ) → c.processes.stack ≡ p ∷ rest → (i : Instance) → instance_at c p ≡ Some i → Moves (Some p) (settled_in c p i.residual) d → statement_step c p ≡ Ok d → Kept Q d)
      → Kept Q c → Kept Q d
  step_kept c _ (in_turn p rest i d now top at ms is) turns h = turns p rest top i at ms is
  step_kept c _ (between d later ms) turns h = between-kept c d ms h
  step_kept c _ (initializing d e now ms same cycle more after) turns h =
      between-kept (initialize_each 0 c.design.processes d) e more (initialize_kept 0 c.design.processes d (between-kept c d ms h))
  step_kept c _ (moving_now t d now apart ms same) turns h = between-kept (time_moved c t) d ms h

  pub step-by : (c : Config) → ((p : ℕ) (rest : List ℕ) → c.processes.stack ≡ p ∷ rest → IfOk (statement_step c p) (Kept Q)) → Kept Q c → IfWent (step c) (Kept Q)
  step-by c turns h = goes-to c (Kept Q) (λ d ms. step_kept c d ms (λ p rest top i at more is. subst (λ m. IfOk m (Kept Q)) is (turns p rest top)) h)

  pub step-kept : (c : Config) → Sound c → ((p : ℕ) (rest : List ℕ) → c.processes.stack ≡ p ∷ rest → IsKept p Q × IsSettled p Q) → Kept Q c → IfWent (step c) (Kept Q)
  step-kept c sound turns h =
      goes-to c (Kept Q)
      (λ d ms. step_kept c d ms
      (λ p rest top i at more is. let k = turns p rest top in moves-kept p Q k.0 (settled_in c p i.residual) d more (settled-sound c sound p rest i top at) (k.1 (parts c) i at h)) h)

  -- ---- a taking, where nothing is on the stack

  module _ (taken : IsKeptByTakings Q) where
    begun_kept : (b : Bool) (e : Config) (p : ℕ) (i : Instance) → i.started ≡ b → instance_at e p ≡ Some (record i { trigger = None }) → Kept Q e → Kept Q (cond b e (begins e p i))
    begun_kept true e p i is at s = s
    begun_kept false e p i is at s = taken.begins (parts e) p (record i { trigger = None }) i.code i.arguments at (λ t. absurd (true≢false (sym t ∙ is))) s

    cond_same : (b : Bool) (d e f : Config) → Kept Q d → Kept Q (cond b e f) → Kept Q (cond b d f)
    cond_same true d e f one two = one
    cond_same false d e f one two = two

    taken_kept : (c : Config) (p : ℕ) (o : Option Instance) → instance_at c p ≡ o → c.processes.stack ≡ [] → Kept Q c → Kept Q (instance_taken c p o)
    taken_kept c p None at empty s = s
    taken_kept c p (Some i) at empty s =
        let d = with_told (with_stack (with_runnable c (without c.processes.runnable p)) (p ∷ [])) (turn (turn_line c.cycle.now i.path p)) in
        let e = change_instance d p (λ j. record j { trigger = None }) in
        let good : Kept Q d = taken.taken (parts c) p empty s in
        cond_same i.started d e (begins e p i) good
        (begun_kept i.started e p i refl (change-here d.processes.instances p _ i at) (same-kept d p _ (λ j. record { kind = refl; home = refl; code = refl; residual = refl; started = refl; ended = refl }) good))

    taken_if_kept : (c d : Config) (p : ℕ) (b : Bool) → c.processes.stack ≡ [] → Kept Q c → taken_if c p b ≡ Some d → Kept Q d
    taken_if_kept c d p true empty s to = subst (Kept Q) (same_Some (instance_taken c p (instance_at c p)) d to) (taken_kept c p (instance_at c p) refl empty s)
    taken_if_kept c d p false empty s to = absurd (none-some d to)

    pub taking-kept : (c : Config) (p : ℕ) (d : Config) → c.processes.stack ≡ [] → Kept Q c → taking c p ≡ Some d → Kept Q d
    taking-kept c p d empty s to = taken_if_kept c d p (holds c.processes.runnable p) empty s to
