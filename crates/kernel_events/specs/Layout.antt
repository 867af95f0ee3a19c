-- How it is kept: which events may have a delta notification, and the times of those that have a timed one. No public clause
-- cites this module.
use Rattle.std.specs.Prelude.{◌≡◌, ◌≢◌, ◌≤◌, ◌<◌, ◌+◌, ⊤, ℕ, Bool, true, false, List, [], ◌∷◌, Option, Some, None, is_some, length, count_by, slice_set, vec_capacity}
use Rattle.std.specs.Global.{Vec}
use Rattle.std.specs.List.{All, Contains}
use Rattle.std.specs.FinMap as maps
use Rattle.timed_queue.specs.SimTime.declared.moments.Time.{Time}
use Rattle.sim_model.specs.EventCore.declared.notifications.Pending.{Pending}
use Rattle.sim_model.specs.EventCore.declared.notifications.Pending.TheVariants as pending
use Rattle.sim_model.specs.EventCore.Notifications.{pending_at}
use Rattle.timed_queue.specs.Timed.{Timed, with_time, without}

abbrev pub time_of : Pending → Option Time
time_of pending.Nothing = None
time_of pending.Delta = None
time_of (pending.At t) = Some t

abbrev pub is_timed : Pending → Bool
is_timed p = is_some (time_of p)

abbrev pub is_nothing : Pending → Bool
is_nothing pending.Nothing = true
is_nothing pending.Delta = false
is_nothing (pending.At t) = false

-- each event with a delta notification is listed, and the same of all events but one
abbrev pub HasDeltas : List Pending → List ℕ → Type 0
HasDeltas events listed = (q : ℕ) → pending_at events q ≡ pending.Delta → Contains listed q

abbrev pub HasOthers : List Pending → ℕ → List ℕ → Type 0
HasOthers events e listed = (q : ℕ) → q ≢ e → pending_at events q ≡ pending.Delta → Contains listed q

-- others may be listed, whose notification was taken back; and there is room for each event
pub record IsListed (events : List Pending) (listed : Vec ℕ) : Type 0 where
  pub each : HasDeltas events listed.items
  pub below : All (λ q. q < length events) listed.items
  pub places : length events ≤ vec_capacity listed

-- the events with a delta notification are listed, the times are those of the events with a timed one, and there is room for a
-- timed one of each event
pub record IsTied (events : List Pending) (listed : Vec ℕ) (timed : Timed) (n : ℕ) : Type 0 where
  pub deltas : IsListed events listed
  pub times : (e : ℕ) → maps.get timed.times e ≡ time_of (pending_at events e)
  pub room : length events ≤ count_by is_timed events + timed.spare
  pub size : n ≡ length events

-- the times, where this is pending for an event now
abbrev pub with_pending : Timed → ℕ → Pending → Timed
with_pending q e pending.Nothing = without q e
with_pending q e pending.Delta = without q e
with_pending q e (pending.At t) = with_time q e t

-- nothing is pending for these
abbrev pub nothing_at : List ℕ → List Pending → List Pending
nothing_at [] events = events
nothing_at (n ∷ ns) events = nothing_at ns (slice_set events n pending.Nothing)

abbrev pub AreBelow : ℕ → List ℕ → Type 0
AreBelow n [] = ⊤
AreBelow n (m ∷ ms) = (m < n) × AreBelow n ms
