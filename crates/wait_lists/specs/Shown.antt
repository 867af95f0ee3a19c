-- How the lists are kept: for each instance that has room a place, and at the place its waiter. No public clause cites this module.
use Rattle.std.specs.Prelude.{ℕ, Bool, true, false, ◌||◌, List, [], ◌∷◌, Option, None, Some, slice_get, refl}
use Rattle.std.specs.Ordering.{nat_cmp}
use Rattle.std.specs.Coded.{Coded, code_by, coded×, coded_ℕ, coded_bool, coded_list}
use Rattle.std.specs.FinMap as map
use Rattle.std.specs.FinSet as set
use Rattle.numbered_slots.specs.Updated.{updated}
use Rattle.event_core.specs.declared.event.Ev.{Ev}
use Rattle.event_core.specs.contracts.event.Ev as ev
use Rattle.wait_lists.specs.Waits.{Wait, Waits, any_of, all_of, marked}

-- what is kept of an instance: its serial, the events of its wait, whether that is over, the mark, and for how many events there is room
pub record Shown : Type 0 where
  pub serial : ℕ
  pub for_all : Bool
  pub events : List Ev
  pub over : Bool
  pub mark : Bool
  pub room : ℕ

-- it is stored as the tuple of its fields
abbrev pub shown_code : Coded Shown
shown_code =
    code_by
    (ℕ × (Bool × (List Ev × (Bool × (Bool × ℕ)))))
    (coded× coded_ℕ (coded× coded_bool (coded× (coded_list ev.the_row.coded) (coded× coded_bool (coded× coded_bool coded_ℕ)))))
    (λ s. (s.serial, (s.for_all, (s.events, (s.over, (s.mark, s.room))))))
    (λ p. record { serial = p.0; for_all = p.1.0; events = p.1.1.0; over = p.1.1.1.0; mark = p.1.1.1.1.0; room = p.1.1.1.1.1 })
    (λ _. refl)

-- an instance that waits for nothing
abbrev pub idle : ℕ → ℕ → Shown
idle p room = record { serial = p; for_all = false; events = []; over = false; mark = false; room = room }

abbrev pub listed : Bool → List Ev → Option Wait
listed true left = all_of left
listed false events = any_of events

-- a wait that is over is none
abbrev pub unless : Bool → Option Wait → Option Wait
unless true wait = None
unless false wait = wait

abbrev pub wait_of : Option Shown → Option Wait
wait_of None = None
wait_of (Some s) = unless s.over (listed s.for_all s.events)

-- events pass it by: it is marked, or its wait is over
abbrev pub passed_by : Shown → Bool
passed_by s = s.mark || s.over

abbrev pub mark_of : Option Shown → Bool
mark_of None = false
mark_of (Some s) = s.mark

abbrev pub room_of : Option Shown → Option ℕ
room_of None = None
room_of (Some s) = Some s.room

abbrev pub events_of : Option Shown → List Ev
events_of None = []
events_of (Some s) = s.events

-- what stands at the place, if there is one
abbrev pub shown_at : List Shown → Option ℕ → Option Shown
shown_at ss None = None
shown_at ss (Some at) = slice_get ss at

-- what is kept of the instance
abbrev pub told : List Shown → List (ℕ × ℕ) → ℕ → Option Shown
told ss es p = shown_at ss (map.find nat_cmp p es)

-- of each instance that has a place, what f gives
abbrev pub indexed : {X : Type 0} → (Option Shown → Option X) → List Shown → List (ℕ × ℕ) → map.FinMap nat_cmp X
indexed f ss [] = map.empty
indexed f ss (e ∷ es) = updated (indexed f ss es) e.0 (f (slice_get ss e.1))

-- the instances that are marked
abbrev pub marks : List Shown → List (ℕ × ℕ) → set.FinSet nat_cmp
marks ss [] = set.empty
marks ss (e ∷ es) = marked (marks ss es) e.0 (mark_of (slice_get ss e.1))

abbrev pub waits_of : List Shown → List (ℕ × ℕ) → Waits
waits_of ss es = record {
  waits = indexed wait_of ss es;
  muted = marks ss es;
  room = indexed room_of ss es;
}
