-- How `Slots` keeps its values. No public clause cites this module.
use Rattle.std.specs.Prelude.{◌≡◌, ℕ, ◌≤◌, ◌<◌, Bool, List, [], ◌∷◌, true, Option, Some, None, is_some, slice_get, slice_index_or}
use Rattle.std.specs.Ordering.{nat_cmp}
use Rattle.std.specs.BTreeMap as tree
use Rattle.std.specs.FinMap as map
use Rattle.slab.specs.Slab.{Slab, slab_len}
use Rattle.numbered_slots.specs.Updated.{updated}
use Rattle.numbered_slots.specs.Numbered.{Numbered}

module _ {T : Type 0} where
  -- what each number finds, where an entry tells the slot of a number
  abbrev pub live_of : List (Option T) → List (ℕ × ℕ) → map.FinMap nat_cmp T
  live_of slots [] = map.empty
  live_of slots (e ∷ es) = updated (live_of slots es) e.0 (slice_index_or slots e.1 None)

  -- what these slots and entries show
  abbrev pub shown : List (Option T) → List (ℕ × ℕ) → ℕ → Numbered T
  shown slots es next = record { live = live_of slots es; next = next }

  -- each number below the next one may have a slot of its own, which holds its value, and no other slot is in use
  pub record IsSound (slots : Slab T) (keys : tree.BTreeMap ℕ ℕ) (next : ℕ) : Type 0 where
    pub below : (q : ℕ) → next ≤ q → tree.get nat_cmp keys q ≡ None
    pub occupied : (q k : ℕ) → tree.get nat_cmp keys q ≡ Some k → is_some (slice_index_or slots.slots k None) ≡ true
    pub apart : (p q k : ℕ) → tree.get nat_cmp keys p ≡ Some k → tree.get nat_cmp keys q ≡ Some k → p ≡ q
    pub counted : map.len (live_of slots.slots keys.entries) ≡ tree.btree_map_len keys
    pub full : slab_len slots ≡ tree.btree_map_len keys

-- a slot that is marked holds the value of its own number
abbrev pub TellsHomes : List Bool → tree.BTreeMap ℕ ℕ → Type 0
TellsHomes at_home keys = (k : ℕ) → slice_get at_home k ≡ Some true → tree.get nat_cmp keys k ≡ Some k

-- each number below this one has its own slot
abbrev pub AreHome : ℕ → tree.BTreeMap ℕ ℕ → Type 0
AreHome homes keys = (k : ℕ) → k < homes → tree.get nat_cmp keys k ≡ Some k
