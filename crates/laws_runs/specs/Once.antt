-- Which guards an unwinding unwinds, and the marks of their ends.
use Rattle.std.specs.Prelude.{◌≡◌, ◌<◌, ℕ, Bool, true, false, List, [], ◌∷◌, ◌++◌, filter, Some}
use Rattle.sim_model.specs.Residual.{Residual, skip, one, batch, seq, owing, guard, try_, frame, shell, run, goal, Mark, enter, leave, begin, finish, has_goal}
use Rattle.sim_model.specs.Unwinding.{unw}
use Rattle.sim_model.specs.Configuration.{Config, Instance, instance_at}
use Rattle.sim_model.specs.Steps.{step, went}
use Rattle.sim_model.specs.Runs.{after}
use Rattle.sim_model.specs.Waits.{holds}
use Rattle.sim_model.specs.Clean.{guards_of}
use Rattle.sim_model.specs.declared.plain.Goal.{Goal}
use Rattle.laws_runs.specs.Tops.{topped_by}

-- the guards below a goal, from outside in: all of a body that is killed or reset, and those inside its try of an exception
abbrev pub guards_below : Residual → List ℕ
guards_below skip = []
guards_below (one s) = []
guards_below (batch s qs) = []
guards_below (seq r ss) = guards_below r
guards_below (owing r g u) = guards_below r
guards_below (guard r g u) = guards_below r
guards_below (try_ r handlers) = guards_below r
guards_below (frame r x) = guards_below r
guards_below (shell r x) = guards_below r
guards_below (run g r) = guards_below r
guards_below (goal r k) = guards_of r

-- the other way about
abbrev pub innermost_first : List ℕ → List ℕ
innermost_first [] = []
innermost_first (g ∷ gs) = innermost_first gs ++ g ∷ []

-- one of these guards is left, or its unwind block begins or is finished, whoever does it
abbrev pub is_end_of : List ℕ → Mark → Bool
is_end_of gs (enter p g) = false
is_end_of gs (leave p g) = holds gs g
is_end_of gs (begin p g) = holds gs g
is_end_of gs (finish p g) = holds gs g

abbrev pub ends_of : List ℕ → List Mark → List Mark
ends_of gs ms = filter (is_end_of gs) ms

-- p runs the unwind block of each, one after another
abbrev pub once_each : ℕ → List ℕ → List Mark
once_each p [] = []
once_each p (g ∷ gs) = begin p g ∷ finish p g ∷ once_each p gs

-- the step from c to d begins an unwinding of q: it has a goal then, and had none; these are the guards to be unwound
pub record Begins (c d : Config) (q : ℕ) (gs : List ℕ) : Type 0 where
  pub went_on : step c ≡ went d
  pub first : Instance
  pub was : instance_at c q ≡ Some first
  pub goalless : has_goal first.residual ≡ false
  pub then : Instance
  pub is : instance_at d q ≡ Some then
  pub has_one : has_goal then.residual ≡ true
  pub guards : guards_below then.residual ≡ gs

-- q has no goal: its unwinding is over
pub record HasNoGoal (e : Config) (q : ℕ) : Type 0 where
  pub instance : Instance
  pub is : instance_at e q ≡ Some instance
  pub goalless : has_goal instance.residual ≡ false

-- p is on top of the stack
abbrev pub IsOnTop : ℕ → Config → Type 0
IsOnTop p c = (rest : List ℕ) × (c.processes.stack ≡ p ∷ rest)

-- after m steps from d, with these choices, e is the first configuration for which P holds
pub record IsFirst (P : Config → Type 0) (m : ℕ) (choices : List ℕ) (d e : Config) : Type 0 where
  pub reached : after m choices d ≡ Some e
  pub holds_there : P e
  pub not_before : (k : ℕ) (own left : List ℕ) (x : Config) → k < m → choices ≡ own ++ left → after k own d ≡ Some x → P x → ⊥

-- from c to d all guards of q, which is i, are to be unwound: before a goal that is the outermost, on top of the stack
pub record UnwindsAll (c d : Config) (q : ℕ) (i : Instance) (k : Goal) : Type 0 where
  pub then : Instance
  pub is : instance_at d q ≡ Some then
  pub unwound : then.residual ≡ goal (unw i.residual) k
  pub guards : guards_below then.residual ≡ guards_of i.residual
  pub marks : d.trace.marks ≡ c.trace.marks
  pub top : IsOnTop q d
  pub stack : d.processes.stack ≡ topped_by q c
