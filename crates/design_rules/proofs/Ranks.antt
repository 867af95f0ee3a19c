-- A path of bindings goes up through ports and initiators, and then down through exports and targets: with each of its
-- bindings the rank falls.
use Rattle.std.proofs.Common.{◌≡◌, ◌<◌, ◌≤◌, ◌+◌, ◌-◌, ◌*◌, ◌⊎◌, ℕ, zero, suc, Bool, true, false, List, [], ◌∷◌, length, Option, Some, None, refl, sym, ap, ◌∙◌, subst, inl, inr, arith}
use Rattle.std.specs.Prelude.{slice_get, Contains}
use Rattle.std.specs.List.{AllByRecursion}
use Rattle.std.proofs.lemmas.Option.{slice_get_within}
use Rattle.std.proofs.lemmas.List.Elements.{recursion_from_All, All-contains}
use Rattle.code_rules.specs.FlatDesign.declared.objects.Object.{Object}
use Rattle.code_rules.specs.FlatDesign.declared.objects.ObjectForm.{ObjectForm}
use Rattle.code_rules.specs.FlatDesign.declared.objects.ObjectForm.TheVariants as form
use Rattle.code_rules.specs.FlatDesign.declared.objects.Binding.{Binding}
use Rattle.code_rules.specs.FlatDesign.declared.objects.Objects.{Objects}
use Rattle.design_rules.specs.Objects.{object_at, form_at, parent_at}
use Rattle.design_rules.specs.Formed.{IsOwn, IsOfChild, IsRightOfPort, IsRightOfExport, IsRightOfInitiator, IsRightOfTarget, AreEnds, HasForm, AreFormed}
use Rattle.design_rules.specs.Paths.{steps}

-- of an object of this form, in an instance of this number, among so many objects
abbrev pub rank_in : ℕ → ℕ → ObjectForm → ℕ
rank_in n parent (form.Instance m) = 0
rank_in n parent (form.Signal kind many t initial) = 0
rank_in n parent form.Resolved = 0
rank_in n parent (form.Clock period high start code) = 0
rank_in n parent (form.Fifo t size) = 0
rank_in n parent form.Mutex = 0
rank_in n parent form.Event = 0
rank_in n parent form.Keeper = 0
rank_in n parent (form.Semaphore start) = 0
rank_in n parent (form.Memory size) = 0
rank_in n parent (form.Variable t initial) = 0
rank_in n parent (form.Port leads_to size rule) = n + parent
rank_in n parent (form.Export leads_to) = n - parent
rank_in n parent (form.Initiator pass backward) = n + parent
rank_in n parent (form.Target pass blocking forward) = n - parent
rank_in n parent (form.Process kind code dont_initialize) = 0

abbrev pub rank_of : ℕ → Option Object → ℕ
rank_of n None = 0
rank_of n (Some o) = rank_in n o.parent o.form

abbrev pub rank : Objects → ℕ → ℕ
rank os i = rank_of (length os.list) (object_at os i)

pub rank_in-le : (n parent : ℕ) → parent < n → (f : ObjectForm) → rank_in n parent f ≤ 2 * n
rank_in-le n parent below (form.Instance m) = omega arith
rank_in-le n parent below (form.Signal kind many t initial) = omega arith
rank_in-le n parent below form.Resolved = omega arith
rank_in-le n parent below (form.Clock period high start code) = omega arith
rank_in-le n parent below (form.Fifo t size) = omega arith
rank_in-le n parent below form.Mutex = omega arith
rank_in-le n parent below form.Event = omega arith
rank_in-le n parent below form.Keeper = omega arith
rank_in-le n parent below (form.Semaphore start) = omega arith
rank_in-le n parent below (form.Memory size) = omega arith
rank_in-le n parent below (form.Variable t initial) = omega arith
rank_in-le n parent below (form.Port leads_to size rule) = omega arith
rank_in-le n parent below (form.Export leads_to) = omega arith
rank_in-le n parent below (form.Initiator pass backward) = omega arith
rank_in-le n parent below (form.Target pass blocking forward) = omega arith
rank_in-le n parent below (form.Process kind code dont_initialize) = omega arith

-- an object stands in an instance that is there
pub parent_below : (os : Objects) → AreFormed os → (i : ℕ) (o : Object) → object_at os i ≡ Some o → o.parent < length os.list
parent_below os formed i o found =
    let within = slice_get_within os.list i o found in
    elim (formed.parents i o found) [ inl below ↦ omega arith | inr (first, its) ↦ omega arith ]

rank_of-le : (n : ℕ) (o : Option Object) → ((x : Object) → o ≡ Some x → x.parent < n) → rank_of n o ≤ 2 * n
rank_of-le n None h = omega arith
rank_of-le n (Some o) h = rank_in-le n o.parent (h o refl) o.form

pub rank-le : (os : Objects) → AreFormed os → (i : ℕ) → rank os i ≤ steps os
rank-le os formed i = rank_of-le (length os.list) (object_at os i) (parent_below os formed i)

port_falls : (os : Objects) (n instance l : ℕ) (o : Object) → o.parent < n → l < n → instance < l → (f : ObjectForm) → IsRightOfPort os instance o f → rank_in n o.parent f < n + l
port_falls os n instance l o below left at (form.Instance m) h = absurd h
port_falls os n instance l o below left at (form.Signal kind many t initial) h = omega arith
port_falls os n instance l o below left at form.Resolved h = omega arith
port_falls os n instance l o below left at (form.Clock period high start code) h = omega arith
port_falls os n instance l o below left at (form.Fifo t size) h = omega arith
port_falls os n instance l o below left at form.Mutex h = omega arith
port_falls os n instance l o below left at form.Event h = absurd h
port_falls os n instance l o below left at form.Keeper h = absurd h
port_falls os n instance l o below left at (form.Semaphore start) h = omega arith
port_falls os n instance l o below left at (form.Memory size) h = absurd h
port_falls os n instance l o below left at (form.Variable t initial) h = absurd h
port_falls os n instance l o below left at (form.Port leads_to size rule) h = omega arith
port_falls os n instance l o below left at (form.Export leads_to) h = omega arith
port_falls os n instance l o below left at (form.Initiator pass backward) h = absurd h
port_falls os n instance l o below left at (form.Target pass blocking forward) h = absurd h
port_falls os n instance l o below left at (form.Process kind code dont_initialize) h = absurd h

export_falls : (os : Objects) (n instance l : ℕ) (o : Object) → o.parent < n → l < n → l ≡ instance → (f : ObjectForm) → IsRightOfExport os instance o f → rank_in n o.parent f < n - l
export_falls os n instance l o below left at (form.Instance m) h = absurd h
export_falls os n instance l o below left at (form.Signal kind many t initial) h = omega arith
export_falls os n instance l o below left at form.Resolved h = omega arith
export_falls os n instance l o below left at (form.Clock period high start code) h = omega arith
export_falls os n instance l o below left at (form.Fifo t size) h = omega arith
export_falls os n instance l o below left at form.Mutex h = omega arith
export_falls os n instance l o below left at form.Event h = absurd h
export_falls os n instance l o below left at form.Keeper h = absurd h
export_falls os n instance l o below left at (form.Semaphore start) h = omega arith
export_falls os n instance l o below left at (form.Memory size) h = absurd h
export_falls os n instance l o below left at (form.Variable t initial) h = absurd h
export_falls os n instance l o below left at (form.Port leads_to size rule) h = absurd h
export_falls os n instance l o below left at (form.Export leads_to) h = omega arith
export_falls os n instance l o below left at (form.Initiator pass backward) h = absurd h
export_falls os n instance l o below left at (form.Target pass blocking forward) h = absurd h
export_falls os n instance l o below left at (form.Process kind code dont_initialize) h = absurd h

initiator_falls : (os : Objects) (n instance l : ℕ) (o : Object) → o.parent < n → l < n → instance < l → (f : ObjectForm) → IsRightOfInitiator os instance o f → rank_in n o.parent f < n + l
initiator_falls os n instance l o below left at (form.Instance m) h = absurd h
initiator_falls os n instance l o below left at (form.Signal kind many t initial) h = absurd h
initiator_falls os n instance l o below left at form.Resolved h = absurd h
initiator_falls os n instance l o below left at (form.Clock period high start code) h = absurd h
initiator_falls os n instance l o below left at (form.Fifo t size) h = absurd h
initiator_falls os n instance l o below left at form.Mutex h = absurd h
initiator_falls os n instance l o below left at form.Event h = absurd h
initiator_falls os n instance l o below left at form.Keeper h = absurd h
initiator_falls os n instance l o below left at (form.Semaphore start) h = absurd h
initiator_falls os n instance l o below left at (form.Memory size) h = absurd h
initiator_falls os n instance l o below left at (form.Variable t initial) h = absurd h
initiator_falls os n instance l o below left at (form.Port leads_to size rule) h = absurd h
initiator_falls os n instance l o below left at (form.Export leads_to) h = absurd h
initiator_falls os n instance l o below left at (form.Initiator pass backward) (passes, h) = omega arith
initiator_falls os n instance l o below left at (form.Target pass blocking forward) h = omega arith
initiator_falls os n instance l o below left at (form.Process kind code dont_initialize) h = absurd h

target_falls : (os : Objects) (n instance l : ℕ) (o : Object) → o.parent < n → l < n → l ≡ instance → (f : ObjectForm) → IsRightOfTarget os instance o f → rank_in n o.parent f < n - l
target_falls os n instance l o below left at (form.Instance m) h = absurd h
target_falls os n instance l o below left at (form.Signal kind many t initial) h = absurd h
target_falls os n instance l o below left at form.Resolved h = absurd h
target_falls os n instance l o below left at (form.Clock period high start code) h = absurd h
target_falls os n instance l o below left at (form.Fifo t size) h = absurd h
target_falls os n instance l o below left at form.Mutex h = absurd h
target_falls os n instance l o below left at form.Event h = absurd h
target_falls os n instance l o below left at form.Keeper h = absurd h
target_falls os n instance l o below left at (form.Semaphore start) h = absurd h
target_falls os n instance l o below left at (form.Memory size) h = absurd h
target_falls os n instance l o below left at (form.Variable t initial) h = absurd h
target_falls os n instance l o below left at (form.Port leads_to size rule) h = absurd h
target_falls os n instance l o below left at (form.Export leads_to) h = absurd h
target_falls os n instance l o below left at (form.Initiator pass backward) h = absurd h
target_falls os n instance l o below left at (form.Target pass blocking forward) h = omega arith
target_falls os n instance l o below left at (form.Process kind code dont_initialize) h = absurd h

ends_fall : (os : Objects) (n instance : ℕ) (l o : Object) → o.parent < n → l.parent < n → (f : ObjectForm) → AreEnds os instance o l f
    → rank_in n o.parent o.form < rank_in n l.parent f
ends_fall os n instance l o below left (form.Instance m) h = absurd h
ends_fall os n instance l o below left (form.Signal kind many t initial) h = absurd h
ends_fall os n instance l o below left form.Resolved h = absurd h
ends_fall os n instance l o below left (form.Clock period high start code) h = absurd h
ends_fall os n instance l o below left (form.Fifo t size) h = absurd h
ends_fall os n instance l o below left form.Mutex h = absurd h
ends_fall os n instance l o below left form.Event h = absurd h
ends_fall os n instance l o below left form.Keeper h = absurd h
ends_fall os n instance l o below left (form.Semaphore start) h = absurd h
ends_fall os n instance l o below left (form.Memory size) h = absurd h
ends_fall os n instance l o below left (form.Variable t initial) h = absurd h
ends_fall os n instance l o below left (form.Port leads_to size rule) (own, h) = port_falls os n instance l.parent o below left own.0 o.form h
ends_fall os n instance l o below left (form.Export leads_to) (own, h) = export_falls os n instance l.parent o below left own o.form h
ends_fall os n instance l o below left (form.Initiator pass backward) (own, h) = initiator_falls os n instance l.parent o below left own.0 o.form h
ends_fall os n instance l o below left (form.Target pass blocking forward) (passes, own, h) = target_falls os n instance l.parent o below left own o.form h
ends_fall os n instance l o below left (form.Process kind code dont_initialize) h = absurd h

rank_at : (n : ℕ) (o : Option Object) (x : Object) → o ≡ Some x → rank_of n o ≡ rank_in n x.parent x.form
rank_at n o x is = ap (rank_of n) is

pub falls_at : (os : Objects) → AreFormed os → (b : Binding) → HasForm os b → rank os b.right < rank os b.left
falls_at os formed b h =
    let n = length os.list in
    let low = ends_fall os n b.instance h.left h.right (parent_below os formed b.right h.right h.right_found) (parent_below os formed b.left h.left h.left_found) h.left.form h.ends in
    let right = rank_at n (object_at os b.right) h.right h.right_found in
    let left = rank_at n (object_at os b.left) h.left h.left_found in
    omega arith

pub falls : (os : Objects) → AreFormed os → (b : Binding) → Contains os.binds b → rank os b.right < rank os b.left
falls os formed b stands = falls_at os formed b (All-contains (HasForm os) os.binds b formed.bindings stands)
