-- A tick of a thread in a run: where the thread stands in it, when it is left, and what is told of each taking in it.
use Rattle.std.specs.Prelude.{◌≡◌, ◌<◌, ◌≤◌, ℕ, false, List, ◌∷◌, ◌++◌, Some}
use Rattle.laws_runs.specs.LogicValues.declared.kinds.Value.{Value}
use Rattle.laws_runs.specs.SimModel.Values.{bits}
use Rattle.laws_runs.specs.SimModel.Residual.{settle, has_goal}
use Rattle.laws_runs.specs.SimModel.Configuration.{Config, Instance, arena, instance_at}
use Rattle.laws_runs.specs.SimModel.Runs.{after}
use Rattle.laws_runs.specs.SimModel.declared.plain.Phase.TheVariants as phase
use Rattle.laws_clocked.specs.Spots.{Shows}
use Rattle.laws_clocked.specs.Ticks.{Tick, Spot, IsIn, left_at, entering, testing, checking}

-- the next step is one of p, which is on top of the stack, and its statement is this one of the tick, with the count v
pub record ComesTo (c : Config) (p : ℕ) (t : Tick) (spot : Spot) (v : Value) : Type 0 where
  pub runs : c.cycle.stopped ≡ false
  pub evaluates : c.cycle.phase ≡ phase.Evaluate
  pub rest : List ℕ
  pub top : c.processes.stack ≡ p ∷ rest
  pub instance : Instance
  pub at : instance_at c p ≡ Some instance
  pub inside : IsIn (arena c) t spot v instance.residual

-- the next step is the last test of the tick's loop, for the count is 0
pub record IsLeaving (c : Config) (p : ℕ) (t : Tick) : Type 0 where
  pub count : Value
  pub comes : ComesTo c p t testing count
  pub used_up : bits count ≡ 0

-- p is not being unwound
pub record IsNotUnwound (c : Config) (p : ℕ) : Type 0 where
  pub instance : Instance
  pub at : instance_at c p ≡ Some instance
  pub goalless : has_goal instance.residual ≡ false

-- P holds of each configuration from c on that n steps with these choices come to: before the last of them, or the last too
abbrev pub EachBefore : (Config → Type 0) → ℕ → List ℕ → Config → Type 0
EachBefore P n choices c = (k : ℕ) (own left : List ℕ) (x : Config) → k < n → choices ≡ own ++ left → after k own c ≡ Some x → P x

abbrev pub EachUpTo : (Config → Type 0) → ℕ → List ℕ → Config → Type 0
EachUpTo P n choices c = (k : ℕ) (own left : List ℕ) (x : Config) → k ≤ n → choices ≡ own ++ left → after k own c ≡ Some x → P x

-- the next step is one of p, which is on top of the stack, and enters this tick
pub record Enters (c : Config) (p : ℕ) (t : Tick) : Type 0 where
  pub runs : c.cycle.stopped ≡ false
  pub evaluates : c.cycle.phase ≡ phase.Evaluate
  pub rest : List ℕ
  pub top : c.processes.stack ≡ p ∷ rest
  pub instance : Instance
  pub at : instance_at c p ≡ Some instance
  pub shows : Shows (left_at t entering) (settle (arena c) instance.residual)

-- The tick that p enters at c it leaves normally at e, n steps with these choices later: there the count is used up for the first
-- time, and p is unwound nowhere between.
pub record LeavesNormally (c e : Config) (p : ℕ) (t : Tick) (n : ℕ) (choices : List ℕ) : Type 0 where
  pub reached : after n choices c ≡ Some e
  pub enters : Enters c p t
  pub leaves : IsLeaving e p t
  pub not_before : EachBefore (λ x. IsLeaving x p t → ⊥) n choices c
  pub not_unwound : EachUpTo (λ x. IsNotUnwound x p) n choices c

-- p is behind the wait of the tick: of its round the tests are left, and what lowers the count
pub record IsBehindWait (c : Config) (p : ℕ) (t : Tick) : Type 0 where
  pub instance : Instance
  pub at : instance_at c p ≡ Some instance
  pub shows : Shows (left_at t (checking t.tests)) (settle (arena c) instance.residual)
