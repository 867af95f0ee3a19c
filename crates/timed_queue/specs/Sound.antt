-- What holds of a wheel between its calls. No public clause cites this module.
use Rattle.std.specs.Prelude.{◌≡◌, ◌≢◌, ◌⊎◌, ℕ, ◌^◌, ◌<◌, ◌≤◌, List, length}
use Rattle.timed_queue.specs.declared.chains.Node.{Node}
use Rattle.timed_queue.specs.declared.wheel.Wheel.{Wheel}
use Rattle.timed_queue.specs.Nodes.{AreLinked, IsFreeList, IsEntry, next_of, place_of, time_of}
use Rattle.timed_queue.specs.Marked.{mark_of}
use Rattle.timed_queue.specs.Placing.{place_at}

-- the nodes are linked, the free ones are listed, and a place is marked where it holds an entry
pub record IsWhole (ns : List Node) (words : List ℕ) (free room : ℕ) : Type 0 where
  pub up : ℕ → ℕ
  pub rings : AreLinked ns up
  pub depth : ℕ → ℕ
  pub stack : IsFreeList (length ns) (next_of ns) (place_of ns) depth free room
  pub marked : (p : ℕ) → p < 704 → mark_of words p ≡ 1 → (p < length ns) × (next_of ns p ≢ p)
  pub held : (i : ℕ) → i < length ns → 704 ≤ i → place_of ns i < 704 → mark_of words (place_of ns i) ≡ 1
  pub heads : (length ns ≡ 0) ⊎ (704 ≤ length ns)
  pub few : length ns < 2 ^ 32

abbrev pub IsWheel : Wheel → Type 0
IsWheel w = IsWhole w.nodes.items w.marks.words w.free w.room

-- each entry stands where its time does, as seen from the origin, which is past none of them
pub record IsPlaced (ns : List Node) (origin i : ℕ) : Type 0 where
  pub late : origin ≤ time_of ns i
  pub fits : time_of ns i < 2 ^ 64
  pub at : place_of ns i ≡ place_at 10 (time_of ns i) origin

abbrev pub ArePlaced : List Node → ℕ → Type 0
ArePlaced ns origin = (i : ℕ) → IsEntry ns i → IsPlaced ns origin i

abbrev pub IsSettled : Wheel → Type 0
IsSettled w = ArePlaced w.nodes.items w.origin

-- no entry is before t
abbrev pub AreFrom : List Node → ℕ → Type 0
AreFrom ns t = (i : ℕ) → IsEntry ns i → t ≤ time_of ns i

-- no entry is before t, and some entry is at it
pub record IsLeastTime (ns : List Node) (t : ℕ) : Type 0 where
  pub held : (i : ℕ) × IsEntry ns i × (time_of ns i ≡ t)
  pub least : AreFrom ns t

-- no entry is before t, and there is one
pub record IsBound (ns : List Node) (t : ℕ) : Type 0 where
  pub some : (i : ℕ) × IsEntry ns i
  pub below : AreFrom ns t

-- the entry has this time
pub record IsDueNode (ns : List Node) (t i : ℕ) : Type 0 where
  pub there : IsEntry ns i
  pub due : time_of ns i ≡ t

-- the entries below n stand where they do as seen from t, which is past none
abbrev pub ArePlacedBelow : List Node → ℕ → ℕ → Type 0
ArePlacedBelow ns t n = (i : ℕ) → IsEntry ns i → (t ≤ time_of ns i) × (time_of ns i < 2 ^ 64) × (i < n → place_of ns i ≡ place_at 10 (time_of ns i) t)
