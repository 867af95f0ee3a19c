-- What is kept of the lists: the nodes with their links, and where each list begins. No public clause cites this module.
use Rattle.std.specs.Prelude.{◌≡◌, ◌≢◌, ℕ, zero, suc, true, ◌+◌, ◌-◌, ◌*◌, ◌/◌, ◌%◌, ◌<◌, ◌==◌, List, Option, None, Some, if◌then◌else◌, map, length, slice_get, unwrap_or}
use Rattle.std.specs.Ordering.{nat_cmp}
use Rattle.std.specs.FinMap as maps
use Rattle.room_map.specs.Entries.{IsRising}
use Rattle.event_core.specs.declared.event.Ev.{Ev}
use Rattle.event_core.specs.declared.event.Ev.TheVariants.{Fixed, Terminated, Restarted}
use Rattle.wait_lists.specs.declared.heads.Firsts.{Firsts}
use Rattle.wait_lists.specs.declared.nodes.Node.{Node}
use Rattle.wait_lists.specs.declared.waiter.Waiter.{Waiter}
use Rattle.wait_lists.specs.Chains.{none, free, Link, Links, has_tag, IsList, walk}
use Rattle.wait_lists.specs.Shown.{Shown}

-- a tag for each event, no two alike, and behind those that are no event's
abbrev pub code_of : Ev → ℕ
code_of (Fixed n) = 3 * n + 2
code_of (Terminated n) = 3 * n + 3
code_of (Restarted n) = 3 * n + 4

abbrev pub kind_of : ℕ → ℕ → Ev
kind_of zero n = Fixed n
kind_of (suc zero) n = Terminated n
kind_of (suc (suc k)) n = Restarted n

-- the event of a tag
abbrev pub event_of : ℕ → Ev
event_of c = kind_of ((c - 2) % 3) ((c - 2) / 3)

-- the link of a node in the list of its event
abbrev pub event_link : Option Node → Option Link
event_link None = None
event_link (Some n) = Some (record { tag = n.code; next = n.next; prev = n.prev })

-- the link of a node in the list of its waiter
abbrev pub wait_link : Option Node → Option Link
wait_link None = None
wait_link (Some n) = Some (record { tag = n.waiter; next = n.after; prev = n.before })

abbrev pub by_event : List Node → Links
by_event nodes i = event_link (slice_get nodes i)

abbrev pub by_wait : List Node → Links
by_wait nodes i = wait_link (slice_get nodes i)

-- the number, or the other one where it is that of no node
abbrev pub node_or : ℕ → ℕ → ℕ
node_or i other = if i == none then other else i

-- what stands at the place of a tag
abbrev pub at_tag : List ℕ → ℕ → ℕ
at_tag near c = unwrap_or (slice_get near c) none

-- where the list of an event begins: at the place of its tag, or else by the map
abbrev pub begins_at : List ℕ → List (ℕ × ℕ) → ℕ → ℕ
begins_at near far c = node_or (at_tag near c) (unwrap_or (maps.find nat_cmp c far) none)

abbrev pub first_of : Firsts → ℕ → ℕ
first_of f c = begins_at f.near.items f.far.entries c

-- where the list of a tag begins
abbrev pub first_in : Firsts → ℕ → ℕ → ℕ
first_in f fr c = if c == free then fr else first_of f c

-- the lists of events that the map has: they are not empty, and none begins at the place of its tag too
pub record IsHeads (f : Firsts) : Type 0 where
  pub rising : IsRising nat_cmp f.far.entries
  pub begins : (c h : ℕ) → maps.find nat_cmp c f.far.entries ≡ Some h → (1 < c) × (h ≢ none)
  pub alone : (c h : ℕ) → maps.find nat_cmp c f.far.entries ≡ Some h → at_tag f.near.items c ≡ none

-- each tag but that of loose nodes has its list
abbrev pub HasLists : Links → Firsts → ℕ → Type 0
HasLists E f fr = (c : ℕ) → 0 < c → (ns : List ℕ) × IsList E c (first_in f fr c) ns

-- each waiter has its list
abbrev pub HasRows : Links → List Waiter → Type 0
HasRows W ws = (at : ℕ) (w : Waiter) → slice_get ws at ≡ Some w → (ns : List ℕ) × IsList W at w.first ns

-- no node is loose: one that is free has no waiter, and one that stands for an event has one
pub record IsHome (places tag waiter : ℕ) : Type 0 where
  pub listed : 0 < tag
  pub alone : tag ≡ free → waiter ≡ none
  pub at_home : 1 < tag → waiter < places

abbrev pub AllHome : Links → Links → ℕ → Type 0
AllHome E W places = (i c w : ℕ) → has_tag c (E i) ≡ true → has_tag w (W i) ≡ true → IsHome places c w

-- the waiters with their lists beginning elsewhere
abbrev pub refirst : (ℕ → ℕ) → Option Waiter → Option Waiter
refirst f None = None
refirst f (Some w) = Some (record w { first = f w.first })

-- where the list of one place begins now
abbrev pub first_at : ℕ → ℕ → ℕ → ℕ → ℕ
first_at at first k old = if k == at then first else old

abbrev pub event_at : Option Link → Ev
event_at None = Fixed 0
event_at (Some l) = event_of l.tag

-- the events of the nodes
abbrev pub events_at : Links → List ℕ → List Ev
events_at E ns = map (λ i. event_at (E i)) ns

-- what a waiter waits for, whose list begins there
abbrev pub events_from : List Node → ℕ → List Ev
events_from nodes first = events_at (by_event nodes) (walk (length nodes) (by_wait nodes) first)

abbrev pub shown_of : List Node → Waiter → Shown
shown_of nodes w = record { serial = w.serial; for_all = w.for_all; events = events_from nodes w.first; over = w.is_over; mark = w.is_muted; room = w.room }

-- what is kept of the instances
abbrev pub shown : List Node → List Waiter → List Shown
shown nodes ws = map (shown_of nodes) ws
