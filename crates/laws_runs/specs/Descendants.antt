-- Who comes of an instance, whom a call for it and its descendants is for, and who of these comes first.
use Rattle.std.specs.Prelude.{◌≡◌, ◌≢◌, ◌<◌, ◌⊎◌, ℕ, List, Option, Some, slice_get}
use Rattle.sim_model.specs.Configuration.{Config}
use Rattle.sim_model.specs.Clean.{IsLive}

-- n comes of q, by the parents of all, living or ended: q is its parent, or one is that comes of q
pub data ComesOf (parents : List (Option ℕ)) (q : ℕ) : ℕ → Type 0 where
  child : (n : ℕ) → slice_get parents n ≡ Some (Some q) → ComesOf parents q n
  further : (m n : ℕ) → ComesOf parents q m → slice_get parents n ≡ Some (Some m) → ComesOf parents q n

-- a call for q and its descendants is for n: both live, and n is q or comes of it
pub record IsFor (c : Config) (q n : ℕ) : Type 0 where
  pub target_lives : IsLive c.processes q
  pub lives : IsLive c.processes n
  pub comes : (n ≡ q) ⊎ ComesOf c.processes.parents q n

-- where p calls, n stands before m: the greater serial first, and p last
abbrev pub StandsBefore : ℕ → ℕ → ℕ → Type 0
StandsBefore p n m = (n ≢ p) × ((m ≡ p) ⊎ (m < n))
