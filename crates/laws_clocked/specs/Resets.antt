-- What a reset at its level does, and what a reset does, once it has unwound all.
use Rattle.std.specs.Prelude.{◌≡◌, ℕ, true, false, [], ◌∷◌, Some, Ok}
use Rattle.laws_runs.specs.FlatDesign.Code as code
use Rattle.laws_runs.specs.FlatDesign.Code.{statement_at}
use Rattle.laws_runs.specs.SimModel.Residual.{begun, settle, next_of, statement}
use Rattle.laws_runs.specs.SimModel.Configuration.{Config, Instance, arena, instance_at}
use Rattle.laws_runs.specs.SimModel.Statements.{statement_step}
use Rattle.laws_runs.specs.SimModel.Runs.{after}
use Rattle.laws_runs.specs.SimModel.declared.plain.Phase.TheVariants as phase
use Rattle.laws_clocked.specs.Ticks.{Test}

-- the step of p, which is i, begins its body anew, with its first arguments; p stays where it is on the stack
pub record BeginsAnew (c : Config) (p : ℕ) (i : Instance) : Type 0 where
  pub then : Config
  pub steps : statement_step c p ≡ Ok then
  pub instance : Instance
  pub is : instance_at then p ≡ Some instance
  pub anew : instance.residual ≡ begun (arena c) i.code i.arguments
  pub started : instance.started ≡ true
  pub stack : then.processes.stack ≡ c.processes.stack

-- n steps from c on, none of them a taking, the next step is one of p, alone on the stack, and it throws the exception of this reset
pub record ThrowsAfter (c : Config) (p n : ℕ) (x : Test) : Type 0 where
  pub then : Config
  pub reached : after n [] c ≡ Some then
  pub runs : then.cycle.stopped ≡ false
  pub evaluates : then.cycle.phase ≡ phase.Evaluate
  pub alone : then.processes.stack ≡ p ∷ []
  pub instance : Instance
  pub at : instance_at then p ≡ Some instance
  pub next : next_of (settle (arena then) instance.residual) ≡ statement x.throws
  pub throws : statement_at (arena then) x.throws ≡ Some (code.throw x.exception)
