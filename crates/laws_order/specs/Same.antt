-- Two configurations that are the same but for what the order of processes may leave.
use Rattle.std.specs.Prelude.{◌≡◌, ⊤, List, [], ◌∷◌, length, zip, IsPermutation}
use Rattle.sim_model.specs.SignalChannel.Drivers.{Driven}
use Rattle.sim_model.specs.Configuration.{Config}
use Rattle.laws_runs.specs.Marks.{IsDistinct}
use Rattle.laws_order.specs.LeftAlike.{AreLeftAlike}

-- each process that wrote a resolved signal has one driver of its own
pub record HasOwnDrivers (r : Driven) : Type 0 where
  pub once : IsDistinct r.writers
  pub many : length r.drivers ≡ length r.writers

-- a resolved signal with the same value, and the same drivers in whatever order
pub record SameDriven (r s : Driven) : Type 0 where
  pub value : s.value ≡ r.value
  pub drivers : IsPermutation (zip r.writers r.drivers) (zip s.writers s.drivers)
  pub here : HasOwnDrivers r
  pub there : HasOwnDrivers s

abbrev pub SameDrivers : List Driven → List Driven → Type 0
SameDrivers [] [] = ⊤
SameDrivers [] (s ∷ ss) = ⊥
SameDrivers (r ∷ rs) [] = ⊥
SameDrivers (r ∷ rs) (s ∷ ss) = SameDriven r s × SameDrivers rs ss

-- the same but for the lines of the report, the marks and numbers of guards, and the order of what is runnable and of drivers
pub record Same (c x : Config) : Type 0 where
  pub alike : AreLeftAlike c x
  pub drivers : SameDrivers c.channels.resolved x.channels.resolved
