-- A tick of a thread in a run, where its count is told.
use Rattle.std.specs.Prelude.{◌≡◌, ℕ, List, Some}
use Rattle.laws_runs.specs.LogicValues.declared.kinds.Value.{Value}
use Rattle.laws_runs.specs.SimModel.Configuration.{Config, Instance, arena, instance_at}
use Rattle.laws_runs.specs.SimModel.Runs.{after}
use Rattle.laws_clocked.specs.Ticks.{Tick, IsIn, entering, checking}
use Rattle.laws_clocked.specs.Turns.{ComesTo, IsLeaving, IsNotUnwound, EachBefore, EachUpTo}

-- The tick that p enters at c it leaves normally at e, n steps with these choices later: there the count is used up for the first
-- time, and p is unwound nowhere between.
pub record LeavesCounted (c e : Config) (p : ℕ) (t : Tick) (n : ℕ) (choices : List ℕ) : Type 0 where
  pub reached : after n choices c ≡ Some e
  pub old : Value
  pub enters : ComesTo c p t entering old
  pub leaves : IsLeaving e p t
  pub not_before : EachBefore (λ x. IsLeaving x p t → ⊥) n choices c
  pub not_unwound : EachUpTo (λ x. IsNotUnwound x p) n choices c

-- p is behind the wait of the tick, with the count v: of its round the tests are left, and what lowers the count
pub record IsBehindCounted (c : Config) (p : ℕ) (t : Tick) (v : Value) : Type 0 where
  pub instance : Instance
  pub at : instance_at c p ≡ Some instance
  pub inside : IsIn (arena c) t (checking t.tests) v instance.residual
