-- The part of clean configurations that speaks of goals, and of unwind blocks that are begun and owed.
use Rattle.std.specs.Prelude.{◌≡◌, ◌≤◌, ◌<◌, ℕ, true, slice_get, Some}
use Rattle.sim_model.specs.FlatDesign.Code.{Arena}
use Rattle.sim_model.specs.Residual.{has_goal}
use Rattle.sim_model.specs.Configuration.{Instance, Processes}
use Rattle.sim_model.specs.Clean.{times, goals_in, EachBelowGoal, IsOfUnwindBlock, OneAtATime}

pub record CleanGoals (a : Arena) (ps : Processes) : Type 0 where
  -- a residual has at most one goal, and that only on the stack; below it are only statements of unwind blocks, or reached
  -- from them
  pub one_goal : (p : ℕ) (i : Instance) → slice_get ps.instances p ≡ Some i → goals_in i.residual ≤ 1
  pub goal_is_active : (p : ℕ) (i : Instance) → slice_get ps.instances p ≡ Some i → has_goal i.residual ≡ true → 0 < times p ps.stack
  pub below_goal : (p : ℕ) (i : Instance) → slice_get ps.instances p ≡ Some i → EachBelowGoal (IsOfUnwindBlock a) a i.residual
  -- at most one unwind block is begun, and those that are owed lie outside it
  pub one_block : (p : ℕ) (i : Instance) → slice_get ps.instances p ≡ Some i → OneAtATime i.residual
