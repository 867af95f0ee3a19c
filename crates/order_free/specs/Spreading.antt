-- Labels that spread along blocks: who comes to each block, and the blocks whose labels rose, in order.
use Rattle.std.specs.Prelude.{◌≡◌, ◌⊎◌, ◌<◌, ◌≤◌, ◌+◌, ℕ, Bool, true, false, List, [], ◌∷◌, ◌++◌, length, get_or, slice_get, slice_set, unwrap_or, Option, Some, None, Contains}
use Rattle.order_free.specs.declared.blocks.BlockPart.{BlockPart}
use Rattle.order_free.specs.Users.{is_within, joined, Shows}
use Rattle.order_free.specs.declared.users.Users.{Users}
use Rattle.order_free.specs.declared.users.Users.TheVariants as users
use Rattle.order_free.specs.declared.roots.Root.{Root}

-- past the labels everybody counts as told
abbrev pub label_at : List Users → ℕ → Users
label_at labels n = unwrap_or (slice_get labels n) users.Many

abbrev pub targets_in : Option BlockPart → List ℕ
targets_in None = []
targets_in (Some p) = p.targets

abbrev pub targets_at : List BlockPart → ℕ → List ℕ
targets_at parts b = targets_in (slice_get parts b)

-- labels, and the blocks whose labels rose
abbrev pub Spreading : Type 0
Spreading = List Users × List ℕ

abbrev pub raise_if : Bool → Users → ℕ → Spreading → Spreading
raise_if true x n s = s
raise_if false x n s = (slice_set s.0 n (joined (label_at s.0 n) x), s.1 ++ n ∷ [])

-- a block gets these users
abbrev pub raise : Users → ℕ → Spreading → Spreading
raise x n s = raise_if (is_within x (label_at s.0 n)) x n s

abbrev pub raise_all : Users → List ℕ → Spreading → Spreading
raise_all x [] s = s
raise_all x (n ∷ ns) s = raise_all x ns (raise x n s)

abbrev pub raise_roots : List Root → Spreading → Spreading
raise_roots [] s = s
raise_roots (r ∷ rs) s = raise_roots rs (raise (users.One r.process) r.block s)

-- how often a label can rise
abbrev pub rises : Users → ℕ
rises users.Nobody = 2
rises (users.One p) = 1
rises users.Many = 0

abbrev pub all_rises : List Users → ℕ
all_rises [] = 0
all_rises (x ∷ xs) = rises x + all_rises xs

abbrev pub root : ℕ → ℕ → Root
root p b = record { process = p; block = b }

-- a process comes to a block: it begins there, or goes on along a target
pub data ComesTo (parts : List BlockPart) (roots : List Root) (p : ℕ) : ℕ → Type 0 where
  begins : (b : ℕ) → Contains roots (root p b) → ComesTo parts roots p b
  goes_on : (b t : ℕ) → ComesTo parts roots p b → Contains (targets_at parts b) t → ComesTo parts roots p t

-- a block stands in a list at this place or behind it
abbrev pub StandsFrom : ℕ → List ℕ → ℕ → Type 0
StandsFrom place blocks b = (i : ℕ) × (place ≤ i) × (i < length blocks) × (get_or blocks i b ≡ b)

-- The first blocks of those whose labels rose are followed: their labels are within those of their targets.
pub record IsUnderWay (parts : List BlockPart) (roots : List Root) (followed_so_far : ℕ) (s : Spreading) : Type 0 where
  pub many : length s.0 ≡ length parts
  pub rooted : (r : Root) → Contains roots r → is_within (users.One r.process) (label_at s.0 r.block) ≡ true
  pub followed : (b t : ℕ) → b < length parts → Contains (targets_at parts b) t → StandsFrom followed_so_far s.1 b ⊎ (is_within (label_at s.0 b) (label_at s.0 t) ≡ true)
  pub listed : (b : ℕ) → b < length parts → (label_at s.0 b ≡ users.Nobody) ⊎ Contains s.1 b
  pub shown : (b : ℕ) → b < length parts → Shows (λ p. ComesTo parts roots p b) (label_at s.0 b)

-- the labels tell who comes to each block, and each block to which somebody comes is listed
pub record AreLabels (parts : List BlockPart) (roots : List Root) (labels : List Users) (listing : List ℕ) : Type 0 where
  pub many : length labels ≡ length parts
  pub come : (p b : ℕ) → b < length parts → ComesTo parts roots p b → (is_within (users.One p) (label_at labels b) ≡ true) × Contains listing b
  pub listed : (b : ℕ) → b < length parts → (label_at labels b ≡ users.Nobody) ⊎ Contains listing b
  pub shown : (b : ℕ) → b < length parts → Shows (λ p. ComesTo parts roots p b) (label_at labels b)

-- nobody comes to any block
pub record AreEmpty (parts : List BlockPart) (labels : List Users) : Type 0 where
  pub many : length labels ≡ length parts
  pub none : (b : ℕ) → b < length parts → label_at labels b ≡ users.Nobody

-- nobody comes to these blocks any more
abbrev pub cleared : List ℕ → List Users → List Users
cleared [] labels = labels
cleared (n ∷ ns) labels = cleared ns (slice_set labels n users.Nobody)
