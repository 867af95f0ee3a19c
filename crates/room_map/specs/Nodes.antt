-- How nodes hold a tree, and what the calls on them ask and tell. No public clause cites this module.
use Rattle.std.specs.Prelude.{◌≡◌, ⊤, ℕ, ◌+◌, ◌<◌, ◌≤◌, ◌^◌, true, List, ◌∷◌, ◌++◌, length, max, Option, None, Some, is_some, slice_get}
use Rattle.std.specs.declared.cmp.Ordering.{Ordering}
use Rattle.std.specs.FinMap.{find, put}
use Rattle.room_map.specs.declared.nodes.Node.{Node}
use Rattle.room_map.specs.Entries.{IsRising, without}
use Rattle.room_map.specs.Shape.{Shape, Bare, Fork, is_at, entries, height, times, IsBalanced}

-- how high a balanced tree is that was made over sides of the heights a and b
pub record IsHighOver (a b h : ℕ) : Type 0 where
  pub left : a ≤ h
  pub right : b ≤ h
  pub low : h ≤ max a b + 1
  pub as_high : a ≤ b + 1 → b ≤ a + 1 → h ≡ max a b + 1

module _ {K V : Type 0} where
  -- the place of the uppermost node; the last number of 32 bits where there is none
  abbrev pub top : Shape K V → ℕ
  top Bare = 4294967295
  top (Fork i l k v r) = i

  -- the node that holds an entry over two sides
  abbrev pub node_over : Shape K V → K → V → Shape K V → Node K V
  node_over l k v r = record { left = top l; right = top r; count = length (entries l) + 1 + length (entries r); height = max (height l) (height r) + 1; key = k; value = v }

  -- the node with an entry more below it
  abbrev pub raised : Node K V → Node K V
  raised n = record { left = n.left; right = n.right; count = n.count + 1; height = n.height; key = n.key; value = n.value }

  -- each node of the tree stands at its place
  abbrev pub IsHeld : List (Node K V) → Shape K V → Type 0
  IsHeld ns Bare = ⊤
  IsHeld ns (Fork i l k v r) = (slice_get ns i ≡ Some (node_over l k v r)) × IsHeld ns l × IsHeld ns r

  -- the height that is kept at a link
  abbrev pub height_in : Option (Node K V) → ℕ
  height_in None = 0
  height_in (Some n) = n.height

  abbrev pub height_at : List (Node K V) → ℕ → ℕ
  height_at ns i = height_in (slice_get ns i)

  -- the tree t hangs from the link i
  pub record Under (ns : List (Node K V)) (i : ℕ) (t : Shape K V) : Type 0 where
    pub is_top : i ≡ top t
    pub held : IsHeld ns t
    pub few : length ns < 2 ^ 32

  -- no node has changed but those that are owned
  pub record Changed (own : ℕ → ℕ) (ns ms : List (Node K V)) : Type 0 where
    pub others : (k : ℕ) → own k ≡ 0 → slice_get ms k ≡ slice_get ns k
    pub long : length ms ≡ length ns

  -- two trees, and a place beside them for the node that is to stand over both
  pub record AreSides (ns : List (Node K V)) (i : ℕ) (l : Shape K V) (x : ℕ) (j : ℕ) (r : Shape K V) : Type 0 where
    pub left : Under ns i l
    pub right : Under ns j r
    pub there : x < length ns
    pub apart : (k : ℕ) → times k l + is_at x k + times k r ≤ 1
    pub small : length (entries l) + 1 + length (entries r) < 2 ^ 32

  -- three trees, and two places beside them
  pub record AreThree (ns : List (Node K V)) (i : ℕ) (a : Shape K V) (x : ℕ) (j : ℕ) (b : Shape K V) (y : ℕ) (m : ℕ) (c : Shape K V) : Type 0 where
    pub first : Under ns i a
    pub second : Under ns j b
    pub third : Under ns m c
    pub x_there : x < length ns
    pub y_there : y < length ns
    pub apart : (k : ℕ) → times k a + is_at x k + times k b + is_at y k + times k c ≤ 1
    pub small : length (entries a) + 1 + length (entries b) + 1 + length (entries c) < 2 ^ 32

  -- two balanced trees that differ by at most two in height
  pub record AreNear (ns : List (Node K V)) (i : ℕ) (l : Shape K V) (x : ℕ) (j : ℕ) (r : Shape K V) : Type 0 where
    pub sides : AreSides ns i l x j r
    pub left_even : IsBalanced l
    pub right_even : IsBalanced r
    pub left_near : height l ≤ height r + 2
    pub right_near : height r ≤ height l + 2

  -- u is balanced and has what the two sides and the entry between them have
  pub record IsEven (l : Shape K V) (x : ℕ) (k : K) (v : V) (r : Shape K V) (u : Shape K V) : Type 0 where
    pub has : entries u ≡ entries l ++ (k, v) ∷ entries r
    pub places : (q : ℕ) → times q u ≡ times q l + is_at x q + times q r
    pub balanced : IsBalanced u
    pub high : IsHighOver (height l) (height r) (height u)

  -- t may be split at its first entry
  pub record CanSplit (ns : List (Node K V)) (i : ℕ) (n : Node K V) (t : Shape K V) : Type 0 where
    pub under : Under ns i t
    pub there : slice_get ns i ≡ Some n
    pub apart : (q : ℕ) → times q t ≤ 1
    pub small : length (entries t) < 2 ^ 32
    pub balanced : IsBalanced t

  -- u is t without its first entry, which stood at x
  pub record IsSplit (t : Shape K V) (x : ℕ) (k : K) (v : V) (u : Shape K V) : Type 0 where
    pub has : entries t ≡ (k, v) ∷ entries u
    pub places : (q : ℕ) → times q t ≡ is_at x q + times q u
    pub balanced : IsBalanced u
    pub low : height u ≤ height t
    pub high : height t ≤ height u + 1

  -- two balanced trees that differ by at most one in height
  pub record CanJoin (ns : List (Node K V)) (i : ℕ) (l : Shape K V) (j : ℕ) (r : Shape K V) : Type 0 where
    pub left : Under ns i l
    pub right : Under ns j r
    pub apart : (q : ℕ) → times q l + times q r ≤ 1
    pub small : length (entries l) + length (entries r) < 2 ^ 32
    pub left_even : IsBalanced l
    pub right_even : IsBalanced r
    pub left_near : height l ≤ height r + 1
    pub right_near : height r ≤ height l + 1

  -- u has what l has, and then what r has
  pub record IsJoined (l r u : Shape K V) : Type 0 where
    pub has : entries u ≡ entries l ++ entries r
    pub places : (q : ℕ) → times q u ≡ times q l + times q r
    pub balanced : IsBalanced u
    pub low : height u ≤ max (height l) (height r) + 1
    pub high : max (height l) (height r) ≤ height u

  module _ (R : K → K → Ordering) where
    -- the key may go into t, in the node at s
    pub record CanEnter (ns : List (Node K V)) (i : ℕ) (key : K) (s : ℕ) (t : Shape K V) : Type 0 where
      pub under : Under ns i t
      pub there : s < length ns
      pub apart : (q : ℕ) → times q t + is_at s q ≤ 1
      pub small : length (entries t) + 1 < 2 ^ 32
      pub balanced : IsBalanced t
      pub rises : IsRising R (entries t)
      pub absent : find R key (entries t) ≡ None

    -- u is t with the entry, in the node at s
    pub record HasEntered (t : Shape K V) (s : ℕ) (key : K) (value : V) (u : Shape K V) : Type 0 where
      pub has : entries u ≡ put R key value (entries t)
      pub places : (q : ℕ) → times q u ≡ times q t + is_at s q
      pub balanced : IsBalanced u
      pub low : height t ≤ height u
      pub high : height u ≤ height t + 1

    -- t has the key
    pub record HasKey (ns : List (Node K V)) (i : ℕ) (key : K) (t : Shape K V) : Type 0 where
      pub under : Under ns i t
      pub apart : (q : ℕ) → times q t ≤ 1
      pub rises : IsRising R (entries t)
      pub present : is_some (find R key (entries t)) ≡ true

    -- u is t with the value at the key
    pub record HasValue (t : Shape K V) (key : K) (value : V) (u : Shape K V) : Type 0 where
      pub is_top : top u ≡ top t
      pub has : entries u ≡ put R key value (entries t)
      pub as_many : length (entries u) ≡ length (entries t)
      pub places : (q : ℕ) → times q u ≡ times q t
      pub balanced : IsBalanced t → IsBalanced u
      pub as_high : height u ≡ height t

    -- the key may leave t
    pub record CanLeave (ns : List (Node K V)) (i : ℕ) (key : K) (t : Shape K V) : Type 0 where
      pub has_key : HasKey ns i key t
      pub small : length (entries t) < 2 ^ 32
      pub balanced : IsBalanced t

    -- u is t without the key, whose node stood at x
    pub record HasLeft (t : Shape K V) (key : K) (x : ℕ) (u : Shape K V) : Type 0 where
      pub has : entries u ≡ without R key (entries t)
      pub places : (q : ℕ) → times q u + is_at x q ≡ times q t
      pub balanced : IsBalanced u
      pub low : height u ≤ height t
      pub high : height t ≤ height u + 1
