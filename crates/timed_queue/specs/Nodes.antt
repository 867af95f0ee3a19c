-- The nodes of a wheel, and how they are linked: in one ring for each place, in which the head of the place comes before the first
-- entry and behind the last. No public clause cites this module.
use Rattle.std.specs.Prelude.{◌≡◌, ℕ, ◌+◌, ◌<◌, ◌≤◌, ◌≢◌, List, get_or, length, slice_set}
use Rattle.timed_queue.specs.declared.chains.Node.{Node}

abbrev pub blank : Node
blank = record { name = 0; time = 0; place = 0; next = 0; before = 0 }

abbrev pub node_at : List Node → ℕ → Node
node_at ns i = get_or ns i blank

abbrev pub name_of : List Node → ℕ → ℕ
name_of ns i = (node_at ns i).name

abbrev pub time_of : List Node → ℕ → ℕ
time_of ns i = (node_at ns i).time

abbrev pub place_of : List Node → ℕ → ℕ
place_of ns i = (node_at ns i).place

abbrev pub next_of : List Node → ℕ → ℕ
next_of ns i = (node_at ns i).next

abbrev pub before_of : List Node → ℕ → ℕ
before_of ns i = (node_at ns i).before

abbrev pub with_place : List Node → ℕ → ℕ → List Node
with_place ns i place = slice_set ns i (record (node_at ns i) { place = place })

abbrev pub with_next : List Node → ℕ → ℕ → List Node
with_next ns i next = slice_set ns i (record (node_at ns i) { next = next })

abbrev pub with_before : List Node → ℕ → ℕ → List Node
with_before ns i before = slice_set ns i (record (node_at ns i) { before = before })

abbrev pub with_entry : List Node → ℕ → ℕ → ℕ → List Node
with_entry ns i name time = slice_set ns i (record (node_at ns i) { name = name; time = time })

-- those before and behind the node come next to each other, and it is in no place
unfoldable pub unlinked : List Node → ℕ → List Node
unlinked ns i = with_place (with_before (with_next ns (before_of ns i) (next_of ns i)) (next_of ns i) (before_of ns i)) i 705

-- the node is the last of the place, behind this one
unfoldable pub standing : List Node → ℕ → ℕ → ℕ → List Node
standing ns i place before = with_before (with_next (with_place ns i place) i place) i before

-- the node comes between the last of the place and its head
unfoldable pub linked : List Node → ℕ → ℕ → List Node
linked ns i place = standing (with_before (with_next ns (before_of ns place) i) place i) i place (before_of ns place)

-- Of each node in a place, the next one and the one before are in the same place, and know it in turn. The numbers `up` rise along
-- each ring from its head on, so that no ring is without a head.
pub record IsLinked (len : ℕ) (next before place up : ℕ → ℕ) : Type 0 where
  pub next_in : (i : ℕ) → i < len → place i < 704 → next i < len
  pub next_place : (i : ℕ) → i < len → place i < 704 → place (next i) ≡ place i
  pub next_back : (i : ℕ) → i < len → place i < 704 → before (next i) ≡ i
  pub before_in : (i : ℕ) → i < len → place i < 704 → before i < len
  pub before_place : (i : ℕ) → i < len → place i < 704 → place (before i) ≡ place i
  pub before_back : (i : ℕ) → i < len → place i < 704 → next (before i) ≡ i
  pub rises : (i : ℕ) → i < len → 704 ≤ i → place i < 704 → up (before i) < up i
  pub heads : (i : ℕ) → i < len → i < 704 → place i ≡ i

abbrev pub AreLinked : List Node → (ℕ → ℕ) → Type 0
AreLinked ns up = IsLinked (length ns) (next_of ns) (before_of ns) (place_of ns) up

-- one node comes to a place, and nothing else of the nodes changes but how they are linked
pub record Moved (old new : List Node) (i place : ℕ) : Type 0 where
  pub as_many : length new ≡ length old
  pub here : place_of new i ≡ place
  pub others : (j : ℕ) → j ≢ i → place_of new j ≡ place_of old j
  pub names : (j : ℕ) → name_of new j ≡ name_of old j
  pub times : (j : ℕ) → time_of new j ≡ time_of old j

-- one node gets another name and time, and nothing else of the nodes changes
pub record Filled (old new : List Node) (i name time : ℕ) : Type 0 where
  pub as_many : length new ≡ length old
  pub places : (j : ℕ) → place_of new j ≡ place_of old j
  pub name_here : name_of new i ≡ name
  pub time_here : time_of new i ≡ time
  pub names : (j : ℕ) → j ≢ i → name_of new j ≡ name_of old j
  pub times : (j : ℕ) → j ≢ i → time_of new j ≡ time_of old j

-- the free nodes, from the last one that became free: each knows the next one, and `depth` tells how many there are from it on
pub record IsFreeList (len : ℕ) (next place depth : ℕ → ℕ) (free room : ℕ) : Type 0 where
  pub top : 0 < room → (free < len) × (704 ≤ free) × (place free ≡ 704) × (depth free ≡ room)
  pub each : (i : ℕ) → i < len → place i ≡ 704 → (704 ≤ i) × (0 < depth i) × (depth i ≤ room)
  pub below : (i : ℕ) → i < len → place i ≡ 704 → 1 < depth i → (next i < len) × (place (next i) ≡ 704) × (depth (next i) + 1 ≡ depth i)
  pub one : (i j : ℕ) → i < len → j < len → place i ≡ 704 → place j ≡ 704 → depth i ≡ depth j → i ≡ j

-- the node is an entry of this place
pub record IsAt (ns : List Node) (place i : ℕ) : Type 0 where
  pub within : i < length ns
  pub entry : 704 ≤ i
  pub at : place_of ns i ≡ place

-- the node holds an entry
pub record IsEntry (ns : List Node) (i : ℕ) : Type 0 where
  pub within : i < length ns
  pub entry : 704 ≤ i
  pub live : place_of ns i < 704

-- the same entries, with the same names and times, wherever they stand
pub record Same (old new : List Node) : Type 0 where
  pub as_many : length new ≡ length old
  pub lives : (j : ℕ) → place_of old j < 704 → place_of new j < 704
  pub lived : (j : ℕ) → place_of new j < 704 → place_of old j < 704
  pub names : (j : ℕ) → name_of new j ≡ name_of old j
  pub times : (j : ℕ) → time_of new j ≡ time_of old j

-- nodes are added that hold no entry
pub record Grown (old new : List Node) : Type 0 where
  pub longer : length old ≤ length new
  pub stay : (j : ℕ) → j < length old → node_at new j ≡ node_at old j
  pub none : (j : ℕ) → length old ≤ j → j < length new → 704 ≤ j → 704 ≤ place_of new j

-- nothing of the other nodes changes but how they are linked
pub record Others (old new : List Node) (i : ℕ) : Type 0 where
  pub as_many : length new ≡ length old
  pub places : (j : ℕ) → j ≢ i → place_of new j ≡ place_of old j
  pub names : (j : ℕ) → j ≢ i → name_of new j ≡ name_of old j
  pub times : (j : ℕ) → j ≢ i → time_of new j ≡ time_of old j

-- the node holds this entry
pub record Holds (ns : List Node) (i name time : ℕ) : Type 0 where
  pub there : IsEntry ns i
  pub named : name_of ns i ≡ name
  pub timed : time_of ns i ≡ time

-- an entry of the place with the least time that is not below t
pub record IsLeastFrom (ns : List Node) (place t i : ℕ) : Type 0 where
  pub there : IsAt ns place i
  pub late : t ≤ time_of ns i
  pub least : (j : ℕ) → IsAt ns place j → t ≤ time_of ns j → time_of ns i ≤ time_of ns j
