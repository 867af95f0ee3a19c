-- What the objects of a model that breaks no rule are declared as: first values have their types, and sizes are in range.
use Rattle.std.proofs.Common.{◌≡◌, ◌⊎◌, ◌<◌, ◌≤◌, ◌==◌, ℕ, zero, suc, ◌+◌, Bool, true, false, cond, not, ◌&&◌, List, [], ◌∷◌, ◌++◌, length, Option, Some, None, refl, sym, ap, ◌∙◌, subst, inl, inr, true≢false, arith}
use Rattle.std.specs.Prelude.{⊤, nat_le, if◌then◌else◌, is_some, option_map, unwrap_or, slice_get, Contains}
use Rattle.std.specs.List.{AllByRecursion}
use Rattle.std.proofs.lemmas.Bool.{and_parts, leb-true, eqb-true}
use Rattle.std.proofs.lemmas.List.Elements.{All-from_recursion, All-contains, Contains-append_cases}
use Rattle.elaborate_objects.specs.ModelTree.Tree as tree
use Rattle.elaborate_objects.specs.ModelTree.Lines.{item_line}
use Rattle.elaborate_objects.specs.ModelTree.declared.types.Constant.{Constant}
use Rattle.elaborate_objects.specs.ModelTree.declared.types.ConstantForm.{ConstantForm}
use Rattle.elaborate_objects.specs.ModelTree.declared.types.ConstantForm.TheVariants as constant
use Rattle.elaborate_objects.specs.ModelTree.declared.items.PlainKind.TheVariants as plain
use Rattle.elaborate_objects.specs.ModelTree.declared.items.InitiatorRole.TheVariants as initiator
use Rattle.elaborate_objects.specs.ModelTree.declared.items.TargetRole.TheVariants as target
use Rattle.elaborate_objects.specs.FlatDesign.ValueTypes.{type_of_value, default_value}
use Rattle.elaborate_objects.specs.FlatDesign.declared.value_types.ValueType.{ValueType}
use Rattle.elaborate_objects.specs.FlatDesign.declared.value_types.ValueType.TheVariants as type
use Rattle.elaborate_objects.specs.FlatDesign.declared.objects.Object.{Object}
use Rattle.elaborate_objects.specs.FlatDesign.declared.objects.ObjectForm.{ObjectForm}
use Rattle.elaborate_objects.specs.FlatDesign.declared.objects.ObjectForm.TheVariants as form
use Rattle.elaborate_objects.specs.ModelRules.Meanings.{signal_type, variable_type, port_size}
use Rattle.elaborate_objects.specs.ModelRules.Scopes.{Scope, item_scope}
use Rattle.elaborate_objects.specs.ModelRules.Operators.{is_vector_of}
use Rattle.elaborate_objects.specs.ModelRules.Targets.{misfits, digits_type, constant_type}
use Rattle.elaborate_objects.specs.ModelRules.Sites as part
use Rattle.elaborate_objects.specs.ModelRules.Sites.{Site, site, around_item, type_site, variable_type_sites, constant_sites}
use Rattle.elaborate_objects.specs.ModelRules.Values.{initial_type, type_differs, item_differs}
use Rattle.elaborate_objects.specs.ModelRules.Items.{is_fifo_size, is_port_size, fifo_size, port_range}
use Rattle.elaborate_objects.specs.ModelRules.Passes.{constructs, fault_by, fault_at, first_fault}
use Rattle.elaborate_objects.proofs.ModelRules.Firsts.{all_none}
use Rattle.laws_code.proofs.FaultlessConstructs.{keeps}
use Rattle.laws_code.proofs.Typed.{not_named, same_false, parts_none}
use Rattle.elaborate_objects.specs.DesignRules.Values.{known_type, constant_value, first_value}
use Rattle.elaborate_objects.specs.DesignRules.Forms.{Around, around, items_at, items_in, object_form}
use Rattle.laws_design.proofs.Widths.{HasWidth, form_has, variable_has, default_type}
use Rattle.laws_design.proofs.FaultlessItems.{IsKept, ItemsKept, kept, all_at}
use Rattle.laws_design.proofs.Children.{all_append}
use Rattle.laws_design.proofs.Models.{module_rows, comes_from}
use Rattle.elaborate_objects.specs.Rows.{Row, row_if, rows_in}
use Rattle.elaborate_objects.specs.DesignRules.Listing.{list_of, top_object}
use Rattle.laws_code.proofs.Known.{type_known, variable_known}
use Rattle.elaborate_objects.specs.ModelRules.declared.meanings.ExpressionType.TheVariants as t

same_some : {A : Type 0} (x y : A) → Some x ≡ Some y → x ≡ y
same_some x y h = ap (λ o. unwrap_or o x) h

mapped_none : {A B : Type 0} (f : A → B) (o : Option A) → option_map f o ≡ None → o ≡ None
mapped_none f None h = refl
mapped_none f (Some x) h = cc

-- constants have the types that they go into

digits_by : (width n : ℕ) (b : Bool) → (n == 1) ≡ b → is_vector_of width (if b then t.Logic else t.Vector n) ≡ true → n ≡ width
digits_by width n true e h = absurd (true≢false (sym h))
digits_by width n false e h = sym (eqb-true width n h)

truth_has : (c : ConstantForm) → type_of_value (constant_value c type.Bool) ≡ type.Bool
truth_has (constant.Number n) = refl
truth_has (constant.Negative n) = refl
truth_has (constant.Time n unit) = refl
truth_has (constant.Logic v) = refl
truth_has (constant.Truth b) = refl

logic_has : (c : ConstantForm) → type_of_value (constant_value c type.Logic) ≡ type.Logic
logic_has (constant.Number n) = refl
logic_has (constant.Negative n) = refl
logic_has (constant.Time n unit) = refl
logic_has (constant.Logic v) = refl
logic_has (constant.Truth b) = refl

time_has : (c : ConstantForm) → type_of_value (constant_value c type.Time) ≡ type.Time
time_has (constant.Number n) = refl
time_has (constant.Negative n) = refl
time_has (constant.Time n unit) = refl
time_has (constant.Logic v) = refl
time_has (constant.Truth b) = refl

vector_has : (width : ℕ) (c : ConstantForm) → HasWidth (type.Vector width) → misfits (Some (type.Vector width)) (constant_type c) ≡ false → type_of_value (constant_value c (type.Vector width)) ≡ type.Vector width
vector_has width (constant.Number n) has h = default_type (type.Vector width) has
vector_has width (constant.Negative n) has h = default_type (type.Vector width) has
vector_has width (constant.Time n unit) has h = default_type (type.Vector width) has
vector_has width (constant.Truth b) has h = default_type (type.Vector width) has
vector_has width (constant.Logic v) has h = ap type.Vector (digits_by width v.width (v.width == 1) refl (same_false (is_vector_of width (digits_type v.width)) h))

constant_has : (t : ValueType) (c : ConstantForm) → HasWidth t → misfits (Some t) (constant_type c) ≡ false → type_of_value (constant_value c t) ≡ t
constant_has type.Bool c has h = truth_has c
constant_has (type.Int width) c has h = refl
constant_has (type.Uint width) c has h = refl
constant_has type.Logic c has h = logic_has c
constant_has (type.Vector width) c has h = vector_has width c has h
constant_has type.Time c has h = time_has c
constant_has type.Process c has h = refl
constant_has type.Payload c has h = refl

first_has : (t : ValueType) (c : Option Constant) → HasWidth t → misfits (Some t) (initial_type c) ≡ false → type_of_value (first_value t c) ≡ t
first_has t None has h = default_type t has
first_has t (Some c) has h = constant_has t c.form has h

known_has : (o : Option ValueType) (c : Option Constant) → is_some o ≡ true → ((t : ValueType) → o ≡ Some t → HasWidth t) → misfits o (initial_type c) ≡ false → type_of_value (first_value (known_type o) c) ≡ known_type o
known_has None c known has h = cc
known_has (Some t) c known has h = first_has t c (has t refl) h

-- what is so of the forms of objects
abbrev pub IsRight : ObjectForm → Type 0
IsRight (form.Instance m) = ⊤
IsRight (form.Signal kind many t initial) = type_of_value initial ≡ t
IsRight form.Resolved = ⊤
IsRight (form.Clock period high start code) = ⊤
IsRight (form.Fifo t size) = 1 ≤ size
IsRight form.Mutex = ⊤
IsRight form.Event = ⊤
IsRight form.Keeper = ⊤
IsRight (form.Semaphore start) = ⊤
IsRight (form.Memory size) = ⊤
IsRight (form.Variable t initial) = type_of_value initial ≡ t
IsRight (form.Port leads_to size rule) = (1 ≤ size) × (size ≤ 64)
IsRight (form.Export leads_to) = ⊤
IsRight (form.Initiator pass backward) = ⊤
IsRight (form.Target pass blocking forward) = ⊤
IsRight (form.Process kind code dont_initialize) = ⊤

fifo_least : (size : Option ℕ) → is_fifo_size size ≡ true → 1 ≤ unwrap_or size 16
fifo_least None h = omega arith
fifo_least (Some n) h = leb-true 1 n (and_parts (nat_le 1 n) (nat_le n 65536) h).0

module _ (ms : List tree.Module) (all : List tree.Item) (i : tree.Item) (kept : IsKept ms all i) where
  abbrev x : Site
  x = site (item_scope ms all (around_item i)) (item_line i) (part.of_item kept.before i)

  sizes : (fifo_size x ≡ None) × (port_range x ≡ None)
  sizes =
      let rules = all_none (fault_by x) constructs kept.own in
      (mapped_none _ (fifo_size x) rules.1.1.1.1.1.1.1.1.1.1.0, mapped_none _ (port_range x) rules.1.1.1.1.1.1.1.1.1.1.1.1.0)

  types : type_differs x ≡ None
  types = (keeps x kept.own).types

is_right : (a : Around) (ms : List tree.Module) (all : List tree.Item) (i : tree.Item) (f : ObjectForm) → IsKept ms all i → object_form a i ≡ Some f → IsRight f
is_right a ms all (tree.signal line s) f kept e =
    subst IsRight (same_some _ f e)
    (known_has (signal_type s.value_type) s.initial (type_known (item_scope ms all s.name) s.value_type (parts_none (type_site (item_scope ms all s.name) s.value_type) (constant_sites (item_scope ms all s.name) s.initial) kept.parts).0) (λ t k. form_has s.value_type.form t k) (not_named (item_differs (tree.signal line s)) _ (types ms all (tree.signal line s) kept)))
is_right a ms all (tree.variable line t name c) f kept e =
    subst IsRight (same_some _ f e)
    (known_has (variable_type t) c (variable_known (item_scope ms all name) t (parts_none (variable_type_sites (item_scope ms all name) t) (constant_sites (item_scope ms all name) c) kept.parts).0) (λ u k. variable_has t u k) (not_named (item_differs (tree.variable line t name c)) _ (types ms all (tree.variable line t name c) kept)))
is_right a ms all (tree.fifo line t name size) f kept e =
    subst IsRight (same_some _ f e) (fifo_least size (same_false (is_fifo_size size) (not_named (not (is_fifo_size size)) name (sizes ms all (tree.fifo line t name size) kept).0)))
is_right a ms all (tree.port line i name size) f kept e =
    let p = and_parts (nat_le 1 (port_size size)) (nat_le (port_size size) 64) (same_false (is_port_size (port_size size)) (not_named (not (is_port_size (port_size size))) name (sizes ms all (tree.port line i name size) kept).1)) in
    subst IsRight (same_some _ f e) (leb-true 1 (port_size size) p.0, leb-true (port_size size) 64 p.1)
is_right a ms all (tree.plain line plain.Mutex name) f kept e = subst IsRight (same_some form.Mutex f e) tt
is_right a ms all (tree.plain line plain.Event name) f kept e = subst IsRight (same_some form.Event f e) tt
is_right a ms all (tree.plain line plain.Keeper name) f kept e = subst IsRight (same_some form.Keeper f e) tt
is_right a ms all (tree.initiator line name initiator.Pass) f kept e = subst IsRight (same_some _ f e) tt
is_right a ms all (tree.initiator line name (initiator.Own backward)) f kept e = subst IsRight (same_some _ f e) tt
is_right a ms all (tree.target line name target.Pass) f kept e = subst IsRight (same_some _ f e) tt
is_right a ms all (tree.target line name (target.Own blocking forward)) f kept e = subst IsRight (same_some _ f e) tt
is_right a ms all (tree.bind line left right) f kept e = cc
is_right a ms all (tree.function line g) f kept e = cc
is_right a ms all (tree.resolved line name) f kept e = subst IsRight (same_some _ f e) tt
is_right a ms all (tree.clock line c) f kept e = subst IsRight (same_some _ f e) tt
is_right a ms all (tree.semaphore line name c) f kept e = subst IsRight (same_some _ f e) tt
is_right a ms all (tree.memory line name size) f kept e = subst IsRight (same_some _ f e) tt
is_right a ms all (tree.export line i name) f kept e = subst IsRight (same_some _ f e) tt
is_right a ms all (tree.instance line kind name) f kept e = subst IsRight (same_some _ f e) tt
is_right a ms all (tree.process line p) f kept e = subst IsRight (same_some _ f e) tt

-- and so of the rows of modules, and of all objects

row_right : (a : Around) (ms : List tree.Module) (all : List tree.Item) (i : tree.Item) (f : Option ObjectForm) → object_form a i ≡ f → IsKept ms all i → AllByRecursion (λ (r : Row). IsRight r.form) (row_if i f)
row_right a ms all i None e kept = tt
row_right a ms all i (Some f) e kept = (is_right a ms all i f kept e, tt)

rows_right : (a : Around) (ms : List tree.Module) (all is : List tree.Item) → AllByRecursion (IsKept ms all) is → AllByRecursion (λ (r : Row). IsRight r.form) (rows_in a is)
rows_right a ms all [] h = tt
rows_right a ms all (i ∷ is) h = all_append (λ (r : Row). IsRight r.form) (row_if i (object_form a i)) (rows_in a is) (row_right a ms all i (object_form a i) refl h.0) (rows_right a ms all is h.1)

module_right : (m : tree.Model) → first_fault m ≡ None → (place : ℕ) (x : Option tree.Module) → slice_get m.modules place ≡ x → AllByRecursion (λ (r : Row). IsRight r.form) (module_rows m place)
module_right m none place None e = subst (λ (is : List tree.Item). AllByRecursion (λ (r : Row). IsRight r.form) (rows_in (around m.modules place) is)) (sym (ap items_in e)) tt
module_right m none place (Some x) e =
    subst (λ (is : List tree.Item). AllByRecursion (λ (r : Row). IsRight r.form) (rows_in (around m.modules place) is)) (sym (ap items_in e))
    (rows_right (around m.modules place) m.modules x.items x.items (all_at (ItemsKept m.modules) m.modules place x (kept m none) e))

pub rights : (m : tree.Model) → first_fault m ≡ None → (k : ℕ) (o : Object) → slice_get (list_of m) k ≡ Some o → IsRight o.form
rights m none zero o e = subst (λ (x : Object). IsRight x.form) (same_some (top_object m) o e) tt
rights m none (suc k) o e =
    let g = comes_from m k o e in
    let all = module_right m none g.place (slice_get m.modules g.place) refl in
    subst (λ (x : Object). IsRight x.form) (sym g.is) (All-contains (λ (r : Row). IsRight r.form) (module_rows m g.place) g.row (All-from_recursion (λ (r : Row). IsRight r.form) (module_rows m g.place) all) g.listed)
