-- Lists of nodes that are linked by their numbers. No public clause cites this module.
use Rattle.std.specs.Prelude.{◌≡◌, ℕ, zero, suc, ◌==◌, ◌&&◌, Bool, false, List, [], ◌∷◌, Option, None, Some, if◌then◌else◌, count_by}

-- the number of no node
abbrev pub none : ℕ
none = 4294967295

-- the tag of a node that stands in no list of an event
abbrev pub loose : ℕ
loose = 0

-- the tag of the free nodes
abbrev pub free : ℕ
free = 1

-- in which list a node stands, the node behind it and the one before it
pub record Link : Type 0 where
  pub tag : ℕ
  pub next : ℕ
  pub prev : ℕ

-- the links of the nodes, by their numbers
abbrev pub Links : Type 0
Links = ℕ → Option Link

abbrev pub next_of : Option Link → ℕ
next_of None = none
next_of (Some l) = l.next

abbrev pub prev_of : Option Link → ℕ
prev_of None = none
prev_of (Some l) = l.prev

abbrev pub has_tag : ℕ → Option Link → Bool
has_tag c None = false
has_tag c (Some l) = l.tag == c

-- from the node `at` on the links go over these nodes, the first of which stands behind `before`
abbrev pub Goes : Links → ℕ → ℕ → List ℕ → Type 0
Goes L before at [] = at ≡ none
Goes L before at (i ∷ is) = (at ≡ i) × (prev_of (L i) ≡ before) × Goes L i (next_of (L i)) is

-- the list of the tag begins at `first`: it goes over each node of the tag once
pub record IsList (L : Links) (c first : ℕ) (ns : List ℕ) : Type 0 where
  pub goes : Goes L none first ns
  pub each : (i : ℕ) → count_by (λ x. x == i) ns ≡ (if has_tag c (L i) then 1 else 0)

-- the numbers without this one
abbrev pub leave : ℕ → List ℕ → List ℕ
leave i [] = []
leave i (x ∷ xs) = if x == i then leave i xs else x ∷ leave i xs

abbrev pub changed : (Link → Link) → Option Link → Option Link
changed f None = None
changed f (Some l) = Some (f l)

-- one link is changed
abbrev pub upd : ℕ → (Link → Link) → Links → Links
upd i f L j = if j == i then changed f (L j) else L j

abbrev pub with_next : ℕ → Link → Link
with_next next l = record l { next = next }

abbrev pub with_prev : ℕ → Link → Link
with_prev prev l = record l { prev = prev }

-- a link at the front of a list
abbrev pub at_front : ℕ → ℕ → Link → Link
at_front c first l = record { tag = c; next = first; prev = none }

-- the node is out of its list, and has this tag now
abbrev pub cut : ℕ → ℕ → Link → Links → Links
cut t i l L = upd i (at_front t none) (upd l.next (with_prev l.prev) (upd l.prev (with_next l.next) L))

-- the node is the first of the list of the tag, which began at `first`
abbrev pub put : ℕ → ℕ → ℕ → Links → Links
put c i first L = upd i (at_front c first) (upd first (with_prev i) L)

-- where a list begins once a node was cut out, if it began at `first`
abbrev pub first_after : ℕ → Link → ℕ → ℕ
first_after c l first = if (l.tag == c) && (l.prev == none) then l.next else first

abbrev pub begun : ℕ → Option Link → List ℕ → List ℕ
begun at None rest = []
begun at (Some l) rest = at ∷ rest

-- the nodes that are met from one on, so many at most
unfoldable pub walk : ℕ → Links → ℕ → List ℕ
walk zero L at = []
walk (suc n) L at = begun at (L at) (walk n L (next_of (L at)))
