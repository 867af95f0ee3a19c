-- The wake that a taking of a thread follows.
use Rattle.std.specs.Prelude.{◌≡◌, ◌+◌, ℕ, suc, true, List, ◌++◌, Some}
use Rattle.laws_runs.specs.SimModel.Configuration.{Config, Instance, waits_statically, no_deadline, instance_at}
use Rattle.laws_runs.specs.SimModel.Steps.{went, step}
use Rattle.laws_runs.specs.SimModel.Runs.{after}
use Rattle.laws_runs.specs.SimModel.Clean.{times}
use Rattle.laws_clocked.specs.Fired.{fires_of}

-- p waits for its static sensitivity alone
pub record WaitsStatically (c : Config) (p : ℕ) : Type 0 where
  pub instance : Instance
  pub at : instance_at c p ≡ Some instance
  pub waits : instance.wait ≡ waits_statically
  pub never : instance.deadline ≡ no_deadline

-- Of k steps from c to x with these choices one fires an event of the static sensitivity of p, and ends p's wait for that; and p is
-- not taken behind it, before x.
pub record FollowsWake (c : Config) (p k : ℕ) (own : List ℕ) (x : Config) : Type 0 where
  pub before : ℕ
  pub first : List ℕ
  pub asleep : Config
  pub reached : after before first c ≡ Some asleep
  pub waits : WaitsStatically asleep p
  pub fires : fires_of asleep waits.instance.static ≡ true
  pub awake : Config
  pub wakes : step asleep ≡ went awake
  pub over : WaitsStatically awake p → ⊥
  pub behind : ℕ
  pub second : List ℕ
  pub comes : after behind second awake ≡ Some x
  pub steps : k ≡ before + suc behind
  pub split : own ≡ first ++ second
  pub not_taken : times p second ≡ 0
