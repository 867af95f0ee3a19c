-- The turn of the instance on top of the stack keeps what each of its moves keeps.
use Rattle.std.proofs.Common.{◌≡◌, ℕ, List, ◌∷◌, Some}
use Rattle.std.specs.Prelude.{Result, Ok, Err}
use Rattle.std.specs.Result.{IfOk}
use Rattle.sim_model.specs.FlatDesign.declared.faults.RunFault.{RunFault}
use Rattle.sim_model.specs.Residual.{settle}
use Rattle.sim_model.specs.Configuration.{Config, Instance, arena, instance_at}
use Rattle.sim_model.specs.Statements.{settled_in, step_of}
use Rattle.laws_runs.specs.Moves.{Moves}
use Rattle.laws_runs.proofs.MovesKeep.{moves-keep}
use Rattle.laws_runs.proofs.StatementMoves.{turn-moves}
use Rattle.laws_runs.proofs.GoalMoves.{Sound}
use Rattle.laws_runs.proofs.GoalSteps.{settled-sound}
use Rattle.laws_runs.proofs.GoalParts.{Parts, Kept, IsKept}
use Rattle.laws_runs.proofs.KeptMoves.{each-kept}

module _ (p : ℕ) (Q : Parts → Type 0) (moves : IsKept p Q) where
  pub moves-kept : (c d : Config) → Moves (Some p) c d → Sound c → Kept Q c → Kept Q d
  moves-kept c d ms s h = (moves-keep (Some p) (λ (e : Config). Sound e × Kept Q e) (each-kept p Q moves) c d ms (s, h)).1

  answer_kept : (c : Config) (m : Result Config RunFault) → IfOk m (Moves (Some p) c) → Sound c → Kept Q c → IfOk m (Kept Q)
  answer_kept c (Ok d) ms s h = moves-kept c d ms s h
  answer_kept c (Err f) ms s h = tt

  -- from where finished parts fell away
  pub moved-kept : (c : Config) (rest : List ℕ) → c.processes.stack ≡ p ∷ rest → Sound c → (i : Instance) → instance_at c p ≡ Some i → Kept Q (settled_in c p i.residual)
      → IfOk (step_of (settled_in c p i.residual) p i (settle (arena c) i.residual)) (Kept Q)
  moved-kept c rest top s i at h =
      answer_kept (settled_in c p i.residual) (step_of (settled_in c p i.residual) p i (settle (arena c) i.residual)) (turn-moves c p rest top i at) (settled-sound c s p rest i top at) h
