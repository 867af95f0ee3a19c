-- What holds of the waits as they are kept. No public clause cites this module.
use Rattle.std.specs.Prelude.{◌≡◌, ◌≢◌, ℕ, ◌+◌, ◌^◌, ◌<◌, ◌≤◌, List, [], ◌∷◌, Option, None, Some, ◌++◌, length, slice_get, slice_set, count_by, ◌==◌, vec_capacity, true, false}
use Rattle.std.specs.List.{sum_by}
use Rattle.std.specs.Ordering.{nat_cmp}
use Rattle.std.specs.FinMap as map
use Rattle.event_core.specs.declared.event.Ev.{Ev}
use Rattle.wait_lists.specs.declared.heads.Firsts.{Firsts}
use Rattle.wait_lists.specs.declared.layout.Kept.{Kept}
use Rattle.wait_lists.specs.declared.nodes.Node.{Node}
use Rattle.wait_lists.specs.declared.waiter.Waiter.{Waiter}
use Rattle.wait_lists.specs.Waits.{Waits, without}
use Rattle.wait_lists.specs.Shown.{Shown, waits_of}
use Rattle.wait_lists.specs.Chains.{none, free, Link, Links, has_tag, IsList}
use Rattle.wait_lists.specs.Nodes.{by_event, by_wait, code_of, first_in, IsHeads, HasLists, HasRows, AllHome, shown}

abbrev pub serial_of : Option Shown → Option ℕ
serial_of None = None
serial_of (Some s) = Some s.serial

-- of the places: who has one, and which are vacant
pub record Seats (es : List (ℕ × ℕ)) (ss : List Shown) (vacant : List ℕ) : Type 0 where
  -- at the place of an instance stands its waiter
  pub placed : (p at : ℕ) → map.find nat_cmp p es ≡ Some at → (serial_of (slice_get ss at) ≡ Some p) × (p < 2 ^ 32)
  -- a waiter with room is that of the instance that has the place
  pub owned : (at : ℕ) (s : Shown) → slice_get ss at ≡ Some s → 0 < s.room → map.find nat_cmp s.serial es ≡ Some at
  -- at a vacant place stands a waiter without room, which no instance has
  pub vacated : (at : ℕ) → 1 ≤ count_by (λ x. x == at) vacant → (s : Shown) × (slice_get ss at ≡ Some s) × (s.room ≡ 0) × ((p : ℕ) → map.find nat_cmp p es ≢ Some at)
  pub apart : (at : ℕ) → count_by (λ x. x == at) vacant ≤ 1

-- of the numbers of nodes
pub record Sums (ss : List Shown) (E : Links) (nodes : ℕ) (es : List (ℕ × ℕ)) (spare fr total : ℕ) : Type 0 where
  pub fits : (at : ℕ) (s : Shown) → slice_get ss at ≡ Some s → length s.events ≤ s.room
  pub in_all : total ≡ sum_by (λ s. s.room) ss
  -- there are nodes for as many events as there is room for
  pub enough : total ≤ nodes
  -- a node that stands for no event is free
  pub counts : (fs : List ℕ) → IsList E free fr fs → length fs + sum_by (λ s. length s.events) ss ≡ nodes
  -- there is room for as many lists of events as there are nodes
  pub roomy : nodes ≤ length es + spare

pub record Fit (es : List (ℕ × ℕ)) (ws : List Waiter) (vacant : List ℕ) (nodes : List Node) (heads : Firsts) (fr total : ℕ) : Type 0 where
  pub seats : Seats es (shown nodes ws) vacant
  pub lists : HasLists (by_event nodes) heads fr
  pub rows : HasRows (by_wait nodes) ws
  pub homes : AllHome (by_event nodes) (by_wait nodes) (length ws)
  pub heads_are : IsHeads heads
  pub sums : Sums (shown nodes ws) (by_event nodes) (length nodes) heads.far.entries heads.far.spare fr total
  -- each number is one of a node or of a place
  pub few_nodes : length nodes ≤ none
  pub few_places : length ws ≤ none

abbrev pub IsSound : Kept → Type 0
IsSound k = Fit k.places.entries k.waiters.items k.vacant.items k.nodes.items k.heads.events k.heads.free k.total × (length k.waiters.items ≤ vec_capacity k.vacant)

-- the instances with what they wait for
abbrev pub shown_by : Kept → List Shown
shown_by k = shown k.nodes.items k.waiters.items

-- the waits that it stands for
abbrev pub waits_by : Kept → Waits
waits_by k = waits_of (shown_by k) k.places.entries

-- the list of the nodes of a tag
abbrev pub IsNodes : Kept → ℕ → List ℕ → Type 0
IsNodes k c ns = IsList (by_event k.nodes.items) c (first_in k.heads.events k.heads.free c) ns

-- the node stands for an event
abbrev pub IsUsed : Kept → ℕ → Type 0
IsUsed k i = (l : Link) × (by_event k.nodes.items i ≡ Some l) × (1 < l.tag)

-- the node stands in the list of the waiter at this place
abbrev pub IsOf : Kept → ℕ → ℕ → Type 0
IsOf k at i = has_tag at (by_wait k.nodes.items i) ≡ true

-- one node less stands in the list of the waiter at this place
pub record IsShorter (old new : Kept) (at i : ℕ) (s : Shown) : Type 0 where
  pub events : List Ev
  pub is : shown_by new ≡ slice_set (shown_by old) at (record s { events = events })
  pub one_less : length events + 1 ≡ length s.events
  -- it was one of an event
  pub left : (e : Ev) → has_tag (code_of e) (by_event old.nodes.items i) ≡ true → without e events ≡ without e s.events

-- nodes of the waiter at this place are gone, and all others stand as they stood
pub record IsCutAt (old new : Kept) (at : ℕ) : Type 0 where
  pub lists : (c : ℕ) (xs ys : List ℕ) → 1 < c → IsNodes old c (xs ++ ys) → ((j : ℕ) → 1 ≤ count_by (λ x. x == j) xs → has_tag at (by_wait old.nodes.items j) ≡ false)
      → (zs : List ℕ) × IsNodes new c (xs ++ zs) × (length zs ≤ length ys)
  pub tags : (a j : ℕ) → has_tag at (by_wait old.nodes.items j) ≡ false → has_tag a (by_wait new.nodes.items j) ≡ has_tag a (by_wait old.nodes.items j)

-- the wait of the waiter at this place is over, and all nodes stand as they stood
pub record IsOver (old new : Kept) (at : ℕ) (s : Shown) : Type 0 where
  pub nodes : new.nodes ≡ old.nodes
  pub heads : new.heads ≡ old.heads
  pub is : shown_by new ≡ slice_set (shown_by old) at (record s { over = true })

-- the last of these nodes, or d where there is none
abbrev pub last_in : ℕ → List ℕ → ℕ
last_in d [] = d
last_in d (x ∷ xs) = last_in x xs

-- the first of these nodes
abbrev pub first_from : List ℕ → ℕ
first_from [] = none
first_from (x ∷ xs) = x
