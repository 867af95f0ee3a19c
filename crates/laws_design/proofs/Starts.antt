-- Semaphores start low in a model that breaks no rule.
use Rattle.std.proofs.Common.{◌≡◌, ◌<◌, ◌^◌, ℕ, zero, suc, true, not, List, [], ◌∷◌, All, Option, Some, None, option_map, slice_get, refl, sym, ap, ◌∙◌, subst, arith}
use Rattle.std.specs.Prelude.{⊤, nat_le}
use Rattle.std.specs.List.{AllByRecursion}
use Rattle.std.proofs.lemmas.Bool.{leb-true, eqb-true}
use Rattle.std.proofs.lemmas.List.Elements.{All-nil, All-cons, All-append, All-from_recursion, All-contains}
use Rattle.elaborate_objects.specs.ModelTree.Tree as tree
use Rattle.elaborate_objects.specs.ModelTree.Lines.{item_line}
use Rattle.elaborate_objects.specs.ModelTree.declared.types.ConstantForm.{ConstantForm}
use Rattle.elaborate_objects.specs.ModelTree.declared.types.ConstantForm.TheVariants as constant
use Rattle.elaborate_objects.specs.ModelTree.declared.items.PlainKind.TheVariants as plain
use Rattle.elaborate_objects.specs.ModelTree.declared.items.InitiatorRole.TheVariants as initiator
use Rattle.elaborate_objects.specs.ModelTree.declared.items.TargetRole.TheVariants as target
use Rattle.elaborate_objects.specs.FlatDesign.declared.objects.Object.{Object}
use Rattle.elaborate_objects.specs.FlatDesign.declared.objects.Objects.{Objects}
use Rattle.elaborate_objects.specs.FlatDesign.declared.objects.ObjectForm.{ObjectForm}
use Rattle.elaborate_objects.specs.FlatDesign.declared.objects.ObjectForm.TheVariants as form
use Rattle.elaborate_objects.specs.FlatDesign.declared.design.SemaphorePart.{SemaphorePart}
use Rattle.elaborate_objects.specs.FlatDesign.declared.design.Design.{Design}
use Rattle.elaborate_objects.specs.ModelRules.Scopes.{item_scope}
use Rattle.elaborate_objects.specs.ModelRules.Sites as part
use Rattle.elaborate_objects.specs.ModelRules.Sites.{Site, site, around_item}
use Rattle.elaborate_objects.specs.ModelRules.Items.{is_start, semaphore_range}
use Rattle.elaborate_objects.specs.ModelRules.Passes.{constructs, fault_by, first_fault}
use Rattle.elaborate_objects.proofs.ModelRules.Firsts.{all_none}
use Rattle.laws_code.proofs.Typed.{not_named, same_false}
use Rattle.elaborate_objects.specs.DesignRules.Values.{whole}
use Rattle.elaborate_objects.specs.DesignRules.Forms.{Around, around, items_in, object_form}
use Rattle.elaborate_objects.specs.DesignRules.Listing.{list_of, top_object}
use Rattle.elaborate_objects.specs.Rows.{Row, row_if, rows_in}
use Rattle.laws_design.proofs.FaultlessItems.{IsKept, ItemsKept, kept, all_at}
use Rattle.laws_design.proofs.Children.{all_append}
use Rattle.laws_design.proofs.Models.{module_rows, comes_from}
use Rattle.laws_design.proofs.Along.{same_some}
use Rattle.elaborate_objects.specs.DesignRules.declared.counts.Counts.{Counts}
use Rattle.elaborate_objects.specs.DesignRules.Counting.{behind, along, nothing_before}
use Rattle.elaborate_objects.specs.DesignRules.Parts.{semaphore_by}
use Rattle.elaborate_objects.specs.DesignRules.Designs.{IsDesignOf}

mapped_none : {A B : Type 0} (f : A → B) (o : Option A) → option_map f o ≡ None → o ≡ None
mapped_none f None h = refl
mapped_none f (Some x) h = cc

-- ---- a constant from which a semaphore starts

low_by : (n : ℕ) → nat_le n 2147483647 ≡ true → n < 2 ^ 31
low_by n h = let b = leb-true n 2147483647 h in omega (arith, b)

start_low : (c : ConstantForm) → is_start c ≡ true → whole c < 2 ^ 31
start_low (constant.Number n) h = low_by n h
start_low (constant.Negative n) h = subst (λ k. whole (constant.Negative k) < 2 ^ 31) (sym (eqb-true n 0 h)) (omega arith)
start_low (constant.Time n unit) h = omega arith
start_low (constant.Logic v) h = omega arith
start_low (constant.Truth b) h = omega arith

abbrev pub IsLow : ObjectForm → Type 0
IsLow (form.Instance m) = ⊤
IsLow (form.Signal kind many t initial) = ⊤
IsLow form.Resolved = ⊤
IsLow (form.Clock period high start code) = ⊤
IsLow (form.Fifo t size) = ⊤
IsLow form.Mutex = ⊤
IsLow form.Event = ⊤
IsLow form.Keeper = ⊤
IsLow (form.Semaphore start) = start < 2 ^ 31
IsLow (form.Memory size) = ⊤
IsLow (form.Variable t initial) = ⊤
IsLow (form.Port leads_to size rule) = ⊤
IsLow (form.Export leads_to) = ⊤
IsLow (form.Initiator pass backward) = ⊤
IsLow (form.Target pass blocking forward) = ⊤
IsLow (form.Process kind code dont_initialize) = ⊤

-- ---- of each item, and so of all objects

module _ (ms : List tree.Module) (all : List tree.Item) (i : tree.Item) (kept : IsKept ms all i) where
  abbrev x : Site
  x = site (item_scope ms all (around_item i)) (item_line i) (part.of_item kept.before i)

  starts : semaphore_range x ≡ None
  starts = let rules = all_none (fault_by x) constructs kept.own in mapped_none _ (semaphore_range x) rules.1.1.1.1.1.1.1.1.1.1.1.0

is_low : (a : Around) (ms : List tree.Module) (all : List tree.Item) (i : tree.Item) (f : ObjectForm) → IsKept ms all i → object_form a i ≡ Some f → IsLow f
is_low a ms all (tree.semaphore line name c) f kept e =
    subst IsLow (same_some _ f e) (start_low c.form (same_false (is_start c.form) (not_named (not (is_start c.form)) name (starts ms all (tree.semaphore line name c) kept))))
is_low a ms all (tree.plain line plain.Mutex name) f kept e = subst IsLow (same_some form.Mutex f e) tt
is_low a ms all (tree.plain line plain.Event name) f kept e = subst IsLow (same_some form.Event f e) tt
is_low a ms all (tree.plain line plain.Keeper name) f kept e = subst IsLow (same_some form.Keeper f e) tt
is_low a ms all (tree.initiator line name initiator.Pass) f kept e = subst IsLow (same_some _ f e) tt
is_low a ms all (tree.initiator line name (initiator.Own backward)) f kept e = subst IsLow (same_some _ f e) tt
is_low a ms all (tree.target line name target.Pass) f kept e = subst IsLow (same_some _ f e) tt
is_low a ms all (tree.target line name (target.Own blocking forward)) f kept e = subst IsLow (same_some _ f e) tt
is_low a ms all (tree.bind line left right) f kept e = cc
is_low a ms all (tree.function line g) f kept e = cc
is_low a ms all (tree.signal line s) f kept e = subst IsLow (same_some _ f e) tt
is_low a ms all (tree.variable line t name c) f kept e = subst IsLow (same_some _ f e) tt
is_low a ms all (tree.fifo line t name size) f kept e = subst IsLow (same_some _ f e) tt
is_low a ms all (tree.port line i name size) f kept e = subst IsLow (same_some _ f e) tt
is_low a ms all (tree.resolved line name) f kept e = subst IsLow (same_some _ f e) tt
is_low a ms all (tree.clock line c) f kept e = subst IsLow (same_some _ f e) tt
is_low a ms all (tree.memory line name size) f kept e = subst IsLow (same_some _ f e) tt
is_low a ms all (tree.export line i name) f kept e = subst IsLow (same_some _ f e) tt
is_low a ms all (tree.instance line kind name) f kept e = subst IsLow (same_some _ f e) tt
is_low a ms all (tree.process line p) f kept e = subst IsLow (same_some _ f e) tt

row_low : (a : Around) (ms : List tree.Module) (all : List tree.Item) (i : tree.Item) (f : Option ObjectForm) → object_form a i ≡ f → IsKept ms all i → AllByRecursion (λ (r : Row). IsLow r.form) (row_if i f)
row_low a ms all i None e kept = tt
row_low a ms all i (Some f) e kept = (is_low a ms all i f kept e, tt)

rows_low : (a : Around) (ms : List tree.Module) (all is : List tree.Item) → AllByRecursion (IsKept ms all) is → AllByRecursion (λ (r : Row). IsLow r.form) (rows_in a is)
rows_low a ms all [] h = tt
rows_low a ms all (i ∷ is) h = all_append (λ (r : Row). IsLow r.form) (row_if i (object_form a i)) (rows_in a is) (row_low a ms all i (object_form a i) refl h.0) (rows_low a ms all is h.1)

module_low : (m : tree.Model) → first_fault m ≡ None → (place : ℕ) (x : Option tree.Module) → slice_get m.modules place ≡ x → AllByRecursion (λ (r : Row). IsLow r.form) (module_rows m place)
module_low m none place None e = subst (λ (is : List tree.Item). AllByRecursion (λ (r : Row). IsLow r.form) (rows_in (around m.modules place) is)) (sym (ap items_in e)) tt
module_low m none place (Some x) e =
    subst (λ (is : List tree.Item). AllByRecursion (λ (r : Row). IsLow r.form) (rows_in (around m.modules place) is)) (sym (ap items_in e))
    (rows_low (around m.modules place) m.modules x.items x.items (all_at (ItemsKept m.modules) m.modules place x (kept m none) e))

lows : (m : tree.Model) → first_fault m ≡ None → (k : ℕ) (o : Object) → slice_get (list_of m) k ≡ Some o → IsLow o.form
lows m none zero o e = subst (λ (x : Object). IsLow x.form) (same_some (top_object m) o e) tt
lows m none (suc k) o e =
    let g = comes_from m k o e in
    let all = module_low m none g.place (slice_get m.modules g.place) refl in
    subst (λ (x : Object). IsLow x.form) (sym g.is) (All-contains (λ (r : Row). IsLow r.form) (module_rows m g.place) g.row (All-from_recursion (λ (r : Row). IsLow r.form) (module_rows m g.place) all) g.listed)

-- ---- the semaphores of the design

abbrev StartsLow : SemaphorePart → Type 0
StartsLow p = p.start < 2 ^ 31

semaphore_low : (n : Counts) (f : ObjectForm) → IsLow f → All StartsLow (semaphore_by n f)
semaphore_low n (form.Semaphore start) low = All-cons StartsLow (record { object = n.objects; start = start }) [] low (All-nil StartsLow)
semaphore_low n other low = All-nil StartsLow

along_low : (n : Counts) (os : List Object) → ((k : ℕ) (o : Object) → slice_get os k ≡ Some o → IsLow o.form) → All StartsLow (along (λ c (o : Object). semaphore_by c o.form) n os)
along_low n [] each = All-nil StartsLow
along_low n (o ∷ os) each =
    All-append StartsLow (semaphore_by n o.form) (along (λ c (x : Object). semaphore_by c x.form) (behind n o.form) os) (semaphore_low n o.form (each 0 o refl))
    (along_low (behind n o.form) os (λ k x at. each (suc k) x at))

pub semaphores-low : (m : tree.Model) (d : Design) → first_fault m ≡ None → IsDesignOf m d → All (λ (p : SemaphorePart). p.start < 2 ^ 31) d.semaphores
semaphores-low m d none design =
    subst (λ ps. All StartsLow ps) (sym design.semaphores)
    (along_low nothing_before d.objects.list (λ k o at. lows m none k o (sym (ap (λ (os : Objects). slice_get os.list k) design.objects) ∙ at)))
