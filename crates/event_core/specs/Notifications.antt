-- The rule by which one notification of an event overrides another (IEEE 1666-2011, 5.10.8).
use Rattle.std.specs.Prelude.{ℕ, Bool, true, false, nat_lt, List, Option, Some, None, if◌then◌else◌, slice_index_or}
use Rattle.event_core.specs.declared.notifications.When.{When}
use Rattle.event_core.specs.declared.notifications.When.TheVariants as when
use Rattle.event_core.specs.declared.notifications.Pending.{Pending}
use Rattle.event_core.specs.declared.notifications.Pending.TheVariants as pending
use Rattle.event_core.specs.declared.notifications.Effect.{Effect}
use Rattle.event_core.specs.declared.notifications.Effect.TheVariants.{Fire, Set, Kept}

-- the notification comes before the pending one, or nothing is pending: at once is before the next delta cycle,
-- that is before every later time, and an earlier time is before a later one
abbrev pub comes_first : When → Pending → Bool
comes_first when.Immediate p = true
comes_first when.Delta pending.Nothing = true
comes_first when.Delta pending.Delta = false
comes_first when.Delta (pending.At u) = true
comes_first (when.At t) pending.Nothing = true
comes_first (when.At t) pending.Delta = false
comes_first (when.At t) (pending.At u) = nat_lt t.0 u.0

-- what a notification leaves pending where it overrides: an immediate one leaves nothing
abbrev pub left_pending : When → Pending
left_pending when.Immediate = pending.Nothing
left_pending when.Delta = pending.Delta
left_pending (when.At t) = pending.At t

-- what is pending after a notification: the earlier of the two survives
abbrev pub notified : When → Pending → Pending
notified w p = if comes_first w p then left_pending w else p

-- what a notification does
abbrev pub effect_of : When → Pending → Effect
effect_of when.Immediate p = Fire
effect_of when.Delta p = if comes_first when.Delta p then Set else Kept
effect_of (when.At t) p = if comes_first (when.At t) p then Set else Kept

-- what is pending for an event
abbrev pub pending_at : List Pending → ℕ → Pending
pending_at events e = slice_index_or events e pending.Nothing

-- the pending notification as it would be given
abbrev pub when_of : Pending → Option When
when_of pending.Nothing = None
when_of pending.Delta = Some when.Delta
when_of (pending.At t) = Some (when.At t)
