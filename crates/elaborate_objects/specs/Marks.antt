-- Marks on modules, by their places in the text.
use Rattle.std.specs.Prelude.{◌≡◌, ◌==◌, ◌||◌, ◌+◌, ◌<◌, ℕ, Bool, true, false, List, [], ◌∷◌, map, length, slice_get, unwrap_or, Contains}
use Rattle.std.specs.List.{flat_map, list_any}
use Rattle.check_names.specs.ModelTree.Tree as tree
use Rattle.design_rules.specs.declared.made.Made.{Made}
use Rattle.design_rules.specs.ObjectFaults.{made_by, made_at, has_within}

-- the instances in each module, in text order
abbrev pub made_of : List tree.Module → List (List Made)
made_of ms = map (λ (m : tree.Module). flat_map (made_by ms) m.items) ms

-- past the marks nothing is marked
abbrev pub is_marked : List Bool → ℕ → Bool
is_marked marks i = unwrap_or (slice_get marks i) false

abbrev pub number_if : Bool → ℕ
number_if true = 1
number_if false = 0

-- how many are marked
abbrev pub count_of : List Bool → ℕ
count_of [] = 0
count_of (b ∷ bs) = number_if b + count_of bs

-- What is marked is a module all of whose instances are of modules that are marked, and no such module has itself.
pub record AreSettled (ms : List tree.Module) (marks : List Bool) : Type 0 where
  pub closed : (k : ℕ) (x : Made) → is_marked marks k ≡ true → Contains (made_at ms k) x → is_marked marks x.place ≡ true
  pub apart : (k n : ℕ) → is_marked marks k ≡ true → has_within n ms k k ≡ false

-- whether a module is one of this place, or is marked
abbrev pub meets : ℕ → List Bool → Made → Bool
meets place marks x = x.place == place || is_marked marks x.place

-- what is marked has the module at a place, within as many instances as there are marks
abbrev pub AreFound : List tree.Module → ℕ → List Bool → Type 0
AreFound ms place marks = (k : ℕ) → is_marked marks k ≡ true → has_within (count_of marks) ms place k ≡ true

abbrev pub row_of : List (List Made) → ℕ → List Made
row_of made k = unwrap_or (slice_get made k) []

-- the table of a model's instances
abbrev pub KeepsSettled : List (List Made) → List Bool → List Bool → Type 0
KeepsSettled made old new = (ms : List tree.Module) → made ≡ made_of ms → AreSettled ms old → AreSettled ms new

-- the same of what has the module at a place
abbrev pub KeepsFound : List (List Made) → ℕ → List Bool → List Bool → Type 0
KeepsFound made place old new = (ms : List tree.Module) → made ≡ made_of ms → AreFound ms place old → AreFound ms place new

abbrev pub IsClosedAt : List (List Made) → ℕ → List Bool → ℕ → Type 0
IsClosedAt made place marks k = list_any (meets place marks) (row_of made k) ≡ true → is_marked marks k ≡ true

abbrev pub IsClosed : List (List Made) → ℕ → List Bool → Type 0
IsClosed made place marks = (k : ℕ) → k < length marks → IsClosedAt made place marks k
