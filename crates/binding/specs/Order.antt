-- An order of the objects in which what an object is bound to stands before it.
use Rattle.std.specs.Prelude.{◌≡◌, ◌+◌, ◌-◌, ◌<◌, ℕ, List, [], ◌∷◌, map, length, slice_get, Some, All, Contains}
use Rattle.design_rules.specs.FlatDesign.declared.objects.Object.{Object}
use Rattle.design_rules.specs.FlatDesign.declared.objects.ObjectForm.{ObjectForm}
use Rattle.design_rules.specs.FlatDesign.declared.objects.ObjectForm.TheVariants as form
use Rattle.design_rules.specs.FlatDesign.declared.objects.Binding.{Binding}
use Rattle.design_rules.specs.FlatDesign.declared.objects.Objects.{Objects}
use Rattle.binding.specs.declared.order.Ranked.{Ranked}

-- what an object of this form is ordered by, in an instance of this number, among so many objects: a path of bindings goes
-- up through ports and initiators, and then down through exports and targets
abbrev pub rank_in : ℕ → ℕ → ObjectForm → ℕ
rank_in n parent (form.Instance m) = 0
rank_in n parent (form.Signal kind many t initial) = 0
rank_in n parent form.Resolved = 0
rank_in n parent (form.Clock period high start code) = 0
rank_in n parent (form.Fifo t size) = 0
rank_in n parent form.Mutex = 0
rank_in n parent form.Event = 0
rank_in n parent form.Keeper = 0
rank_in n parent (form.Semaphore start) = 0
rank_in n parent (form.Memory size) = 0
rank_in n parent (form.Variable t initial) = 0
rank_in n parent (form.Port leads_to size rule) = n + parent
rank_in n parent (form.Export leads_to) = n - parent
rank_in n parent (form.Initiator pass backward) = n + parent
rank_in n parent (form.Target pass blocking forward) = n - parent
rank_in n parent (form.Process kind code dont_initialize) = 0

-- objects, of which the first has this number, among n
abbrev pub ranked_from : ℕ → ℕ → List Object → List Ranked
ranked_from n i [] = []
ranked_from n i (o ∷ more) = (record { rank = rank_in n o.parent o.form; object = i }) ∷ ranked_from n (i + 1) more

abbrev pub numbers_of : List Ranked → List ℕ
numbers_of rs = map (λ (r : Ranked). r.object) rs

-- each object stands in it; and of the ends of a binding the right one stands before the left one
pub record IsOrder (os : Objects) (order : List ℕ) : Type 0 where
  pub within : All (λ i. i < length os.list) order
  pub each : (i : ℕ) → i < length os.list → Contains order i
  pub falls : (b : Binding) (k m : ℕ) → Contains os.binds b → slice_get order k ≡ Some b.left → slice_get order m ≡ Some b.right → m < k
