-- Which guards an exception unwinds.
use Rattle.std.specs.Prelude.{◌≡◌, ℕ, true, List, [], Some, if◌then◌else◌}
use Rattle.sim_model.specs.Residual.{Residual, skip, one, batch, seq, owing, guard, try_, frame, shell, run, goal, has_goal}
use Rattle.sim_model.specs.Unwinding.{catches, handles}
use Rattle.sim_model.specs.Configuration.{Config, Instance, instance_at}
use Rattle.sim_model.specs.Clean.{guards_of}
use Rattle.laws_runs.specs.Once.{guards_below, IsOnTop}
use Rattle.laws_runs.specs.Tops.{topped_by}

-- the guards inside the innermost try that has a handler for the exception, from outside in
abbrev pub guards_in_try : Residual → ℕ → List ℕ
guards_in_try skip e = []
guards_in_try (one s) e = []
guards_in_try (batch s qs) e = []
guards_in_try (seq r ss) e = guards_in_try r e
guards_in_try (owing r g u) e = guards_in_try r e
guards_in_try (guard r g u) e = guards_in_try r e
guards_in_try (try_ r handlers) e = if catches r e then guards_in_try r e else if handles handlers e then guards_of r else []
guards_in_try (frame r x) e = guards_in_try r e
guards_in_try (shell r x) e = guards_in_try r e
guards_in_try (run g r) e = guards_in_try r e
guards_in_try (goal r k) e = guards_in_try r e

-- from c to d the guards of q, which was i, inside the try of the exception are to be unwound, and no others: q is on top of the
-- stack, it has all its guards, and none was left and no unwind block begun
pub record UnwindsInTry (c d : Config) (q : ℕ) (i : Instance) (e : ℕ) : Type 0 where
  pub instance : Instance
  pub is : instance_at d q ≡ Some instance
  pub has_one : has_goal instance.residual ≡ true
  pub inside : guards_below instance.residual ≡ guards_in_try i.residual e
  pub all : guards_of instance.residual ≡ guards_of i.residual
  pub marks : d.trace.marks ≡ c.trace.marks
  pub top : IsOnTop q d
  pub stack : d.processes.stack ≡ topped_by q c
