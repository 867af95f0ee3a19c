-- How often channels are reached, from objects that are marked and through bindings.
use Rattle.std.specs.Prelude.{◌≡◌, ◌==◌, ◌||◌, ◌+◌, ◌<◌, ◌≤◌, ◌⊎◌, ℕ, Bool, true, false, not, List, [], ◌∷◌, length, slice_get, slice_set, Some, unwrap_or, All, Contains}
use Rattle.std.specs.List.{flat_map}
use Rattle.design_rules.specs.FlatDesign.declared.objects.Binding.{Binding}
use Rattle.design_rules.specs.FlatDesign.declared.objects.Objects.{Objects}
use Rattle.design_rules.specs.Objects.{form_at, bindings_of}
use Rattle.design_rules.specs.Paths.{is_end, ends_of}
use Rattle.binding.specs.Rows.{row_at}
use Rattle.binding.specs.Ends.{leads}

abbrev pub if_so : ℕ → Bool → ℕ
if_so n true = n
if_so n false = 0

-- how often a number stands in a list
abbrev pub times : ℕ → List ℕ → ℕ
times c [] = 0
times c (x ∷ xs) = if_so 1 (x == c) + times c xs

-- the sum of f over the places that are marked, of which the first has this number
abbrev pub sum_at : (ℕ → ℕ) → ℕ → List Bool → ℕ
sum_at f i [] = 0
sum_at f i (b ∷ bs) = if_so (f i) b + sum_at f (i + 1) bs

-- how often a channel is reached from the objects that are marked
abbrev pub reached : Objects → ℕ → List Bool → ℕ
reached os c marks = sum_at (λ i. times c (leads os (ends_of os) i)) 0 marks

-- the channels that bindings lead to
abbrev pub all_leads : Objects → List Binding → List ℕ
all_leads os links = flat_map (λ (b : Binding). leads os (ends_of os) b.right) links

-- whether an object leads anywhere, by its kept channels
abbrev pub leads_on : Objects → List (List ℕ) → ℕ → Bool
leads_on os ends i = is_end (form_at os i) || not (length (row_at ends i) == 0)

abbrev pub is_marked : List Bool → ℕ → Bool
is_marked marks i = unwrap_or (slice_get marks i) false

abbrev pub marked_if : List Bool → ℕ → Bool → List Bool
marked_if marks i true = slice_set marks i true
marked_if marks i false = marks

-- a channel is reached twice from marked objects; none is; and one is from them and through bindings
abbrev pub ReachesTwice : Objects → List Bool → Type 0
ReachesTwice os marks = (c : ℕ) × (2 ≤ reached os c marks)

abbrev pub ReachesOnce : Objects → List Bool → Type 0
ReachesOnce os marks = (c : ℕ) → reached os c marks ≤ 1

abbrev pub MeetsTwice : Objects → List Bool → List Binding → Type 0
MeetsTwice os marks links = (c : ℕ) × (2 ≤ reached os c marks + times c (all_leads os links))

-- the right ends of bindings are marked, too: no channel is reached more often or less
pub record AreMarked (os : Objects) (links : List Binding) (old new : List Bool) : Type 0 where
  pub counts : (c : ℕ) → reached os c new ≡ reached os c old + times c (all_leads os links)
  pub only : (j : ℕ) → slice_get new j ≡ Some true → (slice_get old j ≡ Some true) ⊎ ((b : Binding) × Contains links b × (b.right ≡ j))

-- in place of an object the right ends of its bindings are marked
pub record IsFollowed (os : Objects) (i : ℕ) (old new : List Bool) : Type 0 where
  pub counts : (c : ℕ) → reached os c new ≡ reached os c old
  pub only : (j : ℕ) → slice_get new j ≡ Some true
      → ((slice_get old j ≡ Some true) × (j ≡ i → is_end (form_at os j) ≡ true)) ⊎ ((b : Binding) × Contains (bindings_of os i) b × (b.right ≡ j))

-- the right ends of bindings are below a number
abbrev pub AreWithin : List Binding → ℕ → Type 0
AreWithin links n = All (λ (b : Binding). b.right < n) links
