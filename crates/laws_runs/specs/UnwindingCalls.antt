-- Which calls unwind, whom, and which guards.
use Rattle.std.specs.Prelude.{◌≡◌, ◌≢◌, ℕ, Bool, true, false, ◌||◌, List, ◌∷◌, Some, Ok}
use Rattle.sim_model.specs.ModelTree.declared.items.ProcessKind.TheVariants as process
use Rattle.sim_model.specs.ModelTree.declared.statements.Control.{Control}
use Rattle.sim_model.specs.FlatDesign.Code as code
use Rattle.sim_model.specs.FlatDesign.Code.{Statement, statement_at}
use Rattle.sim_model.specs.FlatDesign.declared.code.Controlled.{Controlled}
use Rattle.sim_model.specs.Residual as residual
use Rattle.sim_model.specs.Residual.{Residual, skip, one, batch, seq, owing, guard, try_, frame, shell, run, goal, settle, next_of, has_goal}
use Rattle.sim_model.specs.Configuration.{Config, Instance, arena, instance_at}
use Rattle.sim_model.specs.Reading.{here}
use Rattle.sim_model.specs.Control.{is_below_top, target_of}
use Rattle.sim_model.specs.Statements.{settled_in}
use Rattle.sim_model.specs.declared.plain.Goal.{Goal}
use Rattle.sim_model.specs.declared.plain.Goal.TheVariants as goal_of
use Rattle.sim_model.specs.declared.plain.Phase.TheVariants as phase
use Rattle.laws_runs.specs.Once.{Begins}
use Rattle.laws_runs.specs.Tops.{topped_by}

-- what is left of the body of an instance once finished parts have fallen away
abbrev pub left_of : Config → Instance → Residual
left_of c i = settle (arena c) i.residual

-- the next step carries out this statement of p, which is i and on top of the stack
pub record ComesTo (c : Config) (p : ℕ) (i : Instance) (s : Statement) : Type 0 where
  pub runs : c.cycle.stopped ≡ false
  pub evaluates : c.cycle.phase ≡ phase.Evaluate
  pub rest : List ℕ
  pub top : c.processes.stack ≡ p ∷ rest
  pub at : instance_at c p ≡ Some i
  pub number : ℕ
  pub next : next_of (left_of c i) ≡ residual.statement number
  pub is : statement_at (arena c) number ≡ Some s

-- whom the statement names there: q
abbrev pub NamesTarget : Config → ℕ → Instance → Controlled → ℕ → Type 0
NamesTarget c p i who q = target_of (here (settled_in c p i.residual) p (record i { residual = left_of c i }) (left_of c i)) p who ≡ Ok q

-- the next step makes the call that this statement of p, which is i and on top of the stack, owes to q: one that reaches descendants
pub record OwesTo (c : Config) (p : ℕ) (i : Instance) (q : ℕ) (s : Statement) : Type 0 where
  pub runs : c.cycle.stopped ≡ false
  pub evaluates : c.cycle.phase ≡ phase.Evaluate
  pub rest : List ℕ
  pub top : c.processes.stack ≡ p ∷ rest
  pub at : instance_at c p ≡ Some i
  pub number : ℕ
  pub next : next_of (left_of c i) ≡ residual.owes number q
  pub is : statement_at (arena c) number ≡ Some s

-- the next step is a control call of q by p, be that another instance or q itself: of q alone, or one that is owed to q
pub data Controls (c : Config) (k : Control) (p q : ℕ) : Type 0 where
  of_one : (i : Instance) (who : Controlled) → ComesTo c p i (code.control k who false) → NamesTarget c p i who q → Controls c k p q
  of_several : (i : Instance) (who : Controlled) (all : Bool) → OwesTo c p i q (code.control k who all) → Controls c k p q

-- The next step throws the exception e in the body of q, of which this is left: q throws it, or throws it at itself; or p throws it
-- at q, another instance, which is a thread that has begun: at q alone, or by a call that is owed to q.
pub data Throws (c : Config) (e : ℕ) : (q : ℕ) → Residual → Type 0 where
  throws : (q : ℕ) (i : Instance) → ComesTo c q i (code.throw e) → Throws c e q (left_of c i)
  throws_at_itself : (q : ℕ) (i : Instance) (who : Controlled) → ComesTo c q i (code.throw_it who e false) → NamesTarget c q i who q → Throws c e q (left_of c i)
  throws_at_another : (p q : ℕ) (i target : Instance) (who : Controlled) → ComesTo c p i (code.throw_it who e false) → NamesTarget c p i who q → q ≢ p
      → instance_at c q ≡ Some target → target.kind ≡ process.Thread → target.started ≡ true → Throws c e q target.residual
  owed_to_itself : (q : ℕ) (i : Instance) (who : Controlled) (all : Bool) → OwesTo c q i q (code.throw_it who e all) → Throws c e q (left_of c i)
  owed_to_another : (p q : ℕ) (i target : Instance) (who : Controlled) (all : Bool) → OwesTo c p i q (code.throw_it who e all) → q ≢ p
      → instance_at c q ≡ Some target → target.kind ≡ process.Thread → target.started ≡ true → Throws c e q target.residual

-- q lives, is not below the top of the stack, and is not being unwound
pub record MayBeUnwound (c : Config) (q : ℕ) : Type 0 where
  pub target : Instance
  pub is : instance_at c q ≡ Some target
  pub lives : target.ended ≡ false
  pub not_below : is_below_top c q ≡ false
  pub goalless : has_goal target.residual ≡ false

-- the step from c to d begins an unwinding of q, with these guards, and puts q on top of the stack
pub record UnwindsOnTop (c d : Config) (q : ℕ) (gs : List ℕ) : Type 0 where
  pub begins : Begins c d q gs
  pub stack : d.processes.stack ≡ topped_by q c

-- an unwinding goes to the end of the instance, or to its new beginning: the goals of a kill and of a reset
abbrev pub is_outer : Goal → Bool
is_outer goal_of.End = true
is_outer goal_of.Restart = true
is_outer goal_of.Thrown = false
is_outer goal_of.Injected = false

abbrev pub has_outer_goal : Residual → Bool
has_outer_goal skip = false
has_outer_goal (one s) = false
has_outer_goal (batch s qs) = false
has_outer_goal (seq r ss) = has_outer_goal r
has_outer_goal (owing r g u) = has_outer_goal r
has_outer_goal (guard r g u) = has_outer_goal r
has_outer_goal (try_ r handlers) = has_outer_goal r
has_outer_goal (frame r x) = has_outer_goal r
has_outer_goal (shell r x) = has_outer_goal r
has_outer_goal (run g r) = has_outer_goal r
has_outer_goal (goal r k) = is_outer k || has_outer_goal r
