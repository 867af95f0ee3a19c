-- How a map is kept: a tree that hangs from its root, and a chain of free nodes. No public clause cites this module.
use Rattle.std.specs.Prelude.{◌≡◌, ⊤, ℕ, zero, suc, ◌+◌, ◌<◌, ◌≤◌, List, [], ◌∷◌, length, Option, None, Some, slice_get}
use Rattle.std.specs.declared.cmp.Ordering.{Ordering}
use Rattle.room_map.specs.declared.nodes.Node.{Node}
use Rattle.room_map.specs.Entries.{IsRising}
use Rattle.room_map.specs.Shape.{Shape, Bare, Fork, is_at, entries, times, IsBalanced}
use Rattle.room_map.specs.Nodes.{Under}

-- how many times the place stands in the list
abbrev pub among : ℕ → List ℕ → ℕ
among q [] = 0
among q (i ∷ is) = is_at i q + among q is

-- n places that follow one another, the last one first, before those of the list
unfoldable pub falling : ℕ → ℕ → List ℕ → List ℕ
falling from zero is = is
falling from (suc n) is = (from + n) ∷ falling from n is

module _ {K V : Type 0} where
  -- the entry of the node at i, over what hangs from its links
  abbrev pub shape_over : ℕ → (ℕ → Shape K V) → Option (Node K V) → Shape K V
  shape_over i below None = Bare
  shape_over i below (Some m) = Fork i (below m.left) m.key m.value (below m.right)

  -- the tree that hangs from the link i, as far down as n nodes
  unfoldable pub tree_at : ℕ → List (Node K V) → ℕ → Shape K V
  tree_at zero ns i = Bare
  tree_at (suc n) ns i = shape_over i (tree_at n ns) (slice_get ns i)

  -- the tree that hangs from the link i
  abbrev pub tree : List (Node K V) → ℕ → Shape K V
  tree ns i = tree_at (length ns) ns i

  -- the free node behind this one
  abbrev pub next_in : Option (Node K V) → ℕ
  next_in None = 4294967295
  next_in (Some n) = n.right

  abbrev pub next_at : List (Node K V) → ℕ → ℕ
  next_at ns i = next_in (slice_get ns i)

  -- the chain of free nodes that begins at the link i
  abbrev pub IsChain : List (Node K V) → ℕ → List ℕ → Type 0
  IsChain ns i [] = ⊤
  IsChain ns i (j ∷ js) = (i ≡ j) × (j < length ns) × IsChain ns (next_at ns j) js

  -- each node holds an entry of the tree or is free, and none does both
  pub record IsKept (R : K → K → Ordering) (ns : List (Node K V)) (root free spare : ℕ) (t : Shape K V) : Type 0 where
    pub under : Under ns root t
    pub places : List ℕ
    pub chain : IsChain ns free places
    pub as_many : length places ≡ spare
    pub all : length (entries t) + spare ≡ length ns
    pub apart : (q : ℕ) → times q t + among q places ≤ 1
    pub balanced : IsBalanced t
    pub rises : IsRising R (entries t)
