-- What a contract sees of a `WaitLists`.
use Rattle.std.specs.Prelude.{◌≡◌, ℕ, Bool, true, false, IsTrue, ◌≤◌, not, ◌&&◌, ◌==◌, List, [], ◌∷◌, ◌++◌, Option, None, Some, is_some, is_none, unwrap_or, if◌then◌else◌, filter, count_by, refl}
use Rattle.std.specs.List.{list_any}
use Rattle.std.specs.Ordering.{nat_cmp}
use Rattle.std.specs.Coded.{Coded, code_by, coded×, coded_ℕ, coded_bool, coded_list}
use Rattle.std.specs.FinMap as map
use Rattle.std.specs.FinSet as set
use Rattle.event_core.specs.declared.event.Ev.{Ev}
use Rattle.event_core.specs.contracts.event.Ev as ev
use Rattle.numbered_slots.specs.Updated.{updated}
use Rattle.event_core.specs.Ev.{same_event}

-- the event stands in the list
abbrev pub has : Ev → List Ev → Bool
has e events = list_any (λ x. same_event x e) events

-- the list without the event, however often it stood there
abbrev pub without : Ev → List Ev → List Ev
without e events = filter (λ x. not (same_event x e)) events

-- a wait is met by any of its events, or once all have come: then it lists those that are left
pub data Wait : Type 0 where
  AnyOf : List Ev → Wait
  AllOf : List Ev → Wait

-- a list with no event waits for nothing
abbrev pub any_of : List Ev → Option Wait
any_of [] = None
any_of (e ∷ es) = Some (AnyOf (e ∷ es))

abbrev pub all_of : List Ev → Option Wait
all_of [] = None
all_of (e ∷ es) = Some (AllOf (e ∷ es))

-- the wait names the event
abbrev pub names : Ev → Wait → Bool
names e (AnyOf events) = has e events
names e (AllOf left) = has e left

-- what an event leaves of a wait that names it
abbrev pub left_by : Ev → Wait → Option Wait
left_by e (AnyOf events) = None
left_by e (AllOf left) = all_of (without e left)

-- what an event leaves of a wait, if there is one that is not muted
abbrev pub after : Bool → Ev → Option Wait → Option Wait
after true e wait = wait
after false e None = None
after false e (Some wait) = if names e wait then left_by e wait else Some wait

abbrev pub to_pair : Wait → Bool × List Ev
to_pair (AnyOf events) = (false, events)
to_pair (AllOf left) = (true, left)

abbrev pub wait_in : Bool → List Ev → Wait
wait_in false events = AnyOf events
wait_in true left = AllOf left

abbrev pub from_pair : Bool × List Ev → Wait
from_pair p = wait_in p.0 p.1

pub from_pair-to_pair : (w : Wait) → from_pair (to_pair w) ≡ w
from_pair-to_pair (AnyOf events) = refl
from_pair-to_pair (AllOf left) = refl

-- a wait is stored as whether it is for all, and its list
abbrev pub wait_code : Coded Wait
wait_code = code_by (Bool × List Ev) (coded× coded_bool (coded_list ev.the_row.coded)) to_pair from_pair from_pair-to_pair

-- who waits for what, who is muted, and for how many events there is room, for each instance that room was made for
pub record Waits : Type 0 where
  pub waits : map.FinMap nat_cmp Wait
  pub muted : set.FinSet nat_cmp
  pub room : map.FinMap nat_cmp ℕ

-- the lists are stored as the tuple of their fields
abbrev pub waits_code : Coded Waits
waits_code =
    code_by
    (map.FinMap nat_cmp Wait × (set.FinSet nat_cmp × map.FinMap nat_cmp ℕ))
    (coded× (map.code coded_ℕ wait_code) (coded× (set.code coded_ℕ) (map.code coded_ℕ coded_ℕ)))
    (λ w. (w.waits, (w.muted, w.room)))
    (λ p. record { waits = p.0; muted = p.1.0; room = p.1.1 })
    (λ _. refl)

-- nobody waits, is muted or has room
abbrev pub no_waits : Waits
no_waits = record { waits = map.empty; muted = set.empty; room = map.empty }

-- how many events an instance may wait for: none where no room was made for it
abbrev pub room_for : Waits → ℕ → ℕ
room_for w p = unwrap_or (map.get w.room p) 0

-- the event stands in the wait, if there is one
abbrev pub named_by : Ev → Option Wait → Bool
named_by e None = false
named_by e (Some wait) = names e wait

-- the instance waits for the event, alone or among others
abbrev pub waits_for : Waits → ℕ → Ev → Bool
waits_for w p e = named_by e (map.get w.waits p)

-- the waits of the instances that wait for the event
abbrev pub waits_naming : Waits → Ev → map.FinMap nat_cmp Wait
waits_naming w e = map.retain_keys w.waits (λ p. waits_for w p e)

-- the set with the key, or without it
abbrev pub marked : set.FinSet nat_cmp → ℕ → Bool → set.FinSet nat_cmp
marked s k true = set.insert s k
marked s k false = set.remove s k

-- the instance has this wait now, and nothing else changes
abbrev pub with_wait : Waits → ℕ → Option Wait → Waits
with_wait w p wait = record w { waits = updated w.waits p wait }

-- the instance is muted or not, and nothing else changes
abbrev pub with_mark : Waits → ℕ → Bool → Waits
with_mark w p on = record w { muted = marked w.muted p on }

-- the instance has room for so many events now, and nothing else changes
abbrev pub with_room : Waits → ℕ → ℕ → Waits
with_room w p items = record w { room = map.insert w.room p items }

-- the instance waits for nothing, is not muted and has no room, and nothing else changes
abbrev pub without_instance : Waits → ℕ → Waits
without_instance w p = record { waits = map.remove w.waits p; muted = set.remove w.muted p; room = map.remove w.room p }

-- room was made for the instance, and for so many events
abbrev pub HasRoom : Waits → ℕ → ℕ → Type 0
HasRoom w p items = IsTrue (map.contains_key w.room p) × (items ≤ room_for w p)

-- who waits has room
abbrev pub AllHaveRoom : Waits → Type 0
AllHaveRoom w = (p : ℕ) → map.contains_key w.waits p ≡ true → map.contains_key w.room p ≡ true

-- what the event leaves of the instance's wait
abbrev pub wait_after : Waits → ℕ → Ev → Option Wait
wait_after w p e = after (set.contains w.muted p) e (map.get w.waits p)

-- the instance waits, is not muted, and the event is the last that it waits for
abbrev pub is_met_by : Waits → ℕ → Ev → Bool
is_met_by w p e = is_some (map.get w.waits p) && is_none (wait_after w p e)

-- behind the old list the new one has, in some order, each number that passes the test, once
pub record AddsEach (old new : List ℕ) (test : ℕ → Bool) : Type 0 where
  pub added : List ℕ
  pub behind : new ≡ old ++ added
  pub once : (p : ℕ) → count_by (λ x. x == p) added ≡ (if test p then 1 else 0)
