-- Each body of the code is that of an item of a module, whose constructs break no rule; and functions are found by their names.
use Rattle.std.proofs.Common.{◌≡◌, inl, inr, ℕ, ◌+◌, List, [], ◌∷◌, ◌++◌, append_assoc, length, Option, Some, None, refl, sym, ◌∙◌, ap, subst, true, arith, length-append}
use Rattle.std.specs.Prelude.{bytes_eq, slice_get, nat_lt, position, filter_map, option_and_then}
use Rattle.std.specs.List.{AllByRecursion, IsDistinct, position_or_len}
use Rattle.code_rules.specs.ModelTree.Tree as tree
use Rattle.code_rules.specs.FlatDesign.Code.{Arena, body_at}
use Rattle.code_rules.specs.FlatDesign.declared.code.CodeBody.{CodeBody}
use Rattle.code_rules.specs.ModelRules.Scopes.{Scope, as_function, item_scope, functions_in, function_named}
use Rattle.code_rules.specs.ModelRules.Sites.{item_parts, item_sites, around_item, items_sites, module_sites, modules_sites, top_site, sites}
use Rattle.code_rules.specs.ModelRules.Names.{first}
use Rattle.code_rules.specs.ModelRules.Passes.{doubles, constructs, reaches, passes, fault_of, first_fault}
use Rattle.code_rules.specs.ModelRules.Distinct.{names_of, HasDistinctNames}
use Rattle.code_rules.proofs.ModelRules.Firsts.{or_none, each_none}
use Rattle.code_rules.proofs.ModelRules.Doubles.{distinct}
use Rattle.code_rules.specs.Deeds.{Home, has_body, body_number, function_number}
use Rattle.code_rules.specs.Bodies as source
use Rattle.code_rules.specs.Bodies.{Source, source_of, IsBody, IsBodyIf, AreBodies, body_count, exceptions_of, AreModules}
use Rattle.laws_code.proofs.Coded.{same_some}
use Rattle.laws_code.proofs.Blocks.{all_parts}
use Rattle.laws_code.proofs.Places.{mapped_is}
use Rattle.laws_code.proofs.Bodies.{function_body, used_bodies, slice_behind, pos_is}
use Rattle.laws_code.proofs.Lists.{IsOf, at_slice, all_both, made_of, found_of, bound_is}
use Rattle.laws_code.proofs.ReachedBlocks.{IsKept}

-- functions among items

is_function_item : (i : tree.Item) (f : tree.FunctionItem) → as_function i ≡ Some f → (line : ℕ) × (i ≡ tree.function line f)
is_function_item (tree.function line g) f e = (line, ap (tree.function line) (same_some g f e))
is_function_item other f e = cc

pub function_here : (items : List tree.Item) (name : List ℕ) (f : tree.FunctionItem) → function_named items name ≡ Some f → (line : ℕ) × IsOf (tree.function line f) items × (bytes_eq f.name name ≡ true)
function_here items name f e =
    let k = found_of (λ (g : tree.FunctionItem). bytes_eq g.name name) f (functions_in items) e in
    let i = made_of as_function f items k.0 in
    let l = is_function_item i.0 f i.2 in
    (l.0, subst (λ x. IsOf x items) l.1 i.1, k.1)

module _ (m : tree.Model) (a : Arena) where
  -- a module of the model at this place, whose items break no rule, and whose bodies are those of the code from its first one on
  pub record ModuleAt (x : tree.Module) (place : ℕ) (h : Home) : Type 0 where
    pub there : slice_get m.modules place ≡ Some x
    pub differ : IsDistinct bytes_eq (names_of x.items)
    pub kept : (i : tree.Item) → IsOf i x.items → AllByRecursion IsKept (item_parts (item_scope m.modules x.items (around_item i)) i)
    pub before : List CodeBody
    pub bodies : List CodeBody
    pub rest : List CodeBody
    pub total : a.bodies ≡ before ++ bodies
    pub count : length before ≡ h.first_body
    pub read : AreBodies m.modules x.items place h a x.items bodies rest

  item_kept : (all before is : List tree.Item) (i : tree.Item) → IsOf i is → AllByRecursion IsKept (items_sites m.modules all before is) → AllByRecursion IsKept (item_parts (item_scope m.modules all (around_item i)) i)
  item_kept all before [] i here k = absurd here
  item_kept all before (j ∷ is) i (inl e) k =
      subst (λ (y : tree.Item). AllByRecursion IsKept (item_parts (item_scope m.modules all (around_item y)) y)) e
      (all_parts IsKept (item_sites (item_scope m.modules all (around_item j)) before j) (items_sites m.modules all (before ++ j ∷ []) is) k).0.1
  item_kept all before (j ∷ is) i (inr here) k =
      item_kept all (before ++ j ∷ []) is i here (all_parts IsKept (item_sites (item_scope m.modules all (around_item j)) before j) (items_sites m.modules all (before ++ j ∷ []) is) k).1

  -- the body of a function that is called by its name
  pub record FunctionAt (x : tree.Module) (place : ℕ) (h : Home) (name : List ℕ) (b : CodeBody) : Type 0 where
    pub function : tree.FunctionItem
    pub line : ℕ
    pub here : IsOf (tree.function line function) x.items
    pub named : bytes_eq function.name name ≡ true
    pub body : IsBody place h a (item_scope m.modules x.items function.name) (source.of_function function) b

  pub function_at : (x : tree.Module) (place : ℕ) (h : Home) → ModuleAt x place h → (s : Scope) → s.items ≡ x.items → (name : List ℕ) (n : ℕ) (b : CodeBody) → function_number h s name ≡ Some n → body_at a n ≡ Some b
      → FunctionAt x place h name b
  function_at x place h at s same name n b numbered found =
      let y = bound_is (λ (f : tree.FunctionItem). body_number h x.items f.name) (function_named x.items name) n (subst (λ (is : List tree.Item). option_and_then (λ (f : tree.FunctionItem). body_number h is f.name) (function_named is name) ≡ Some n) same numbered) in
      let here = function_here x.items name y.0 y.1 in
      let body = function_body m.modules x.items place h a x.items at.bodies at.rest at.differ at.read name y.0 y.1 in
      let number = mapped_is (λ k. h.first_body + k) (position (λ z. bytes_eq z y.0.name) (filter_map has_body x.items)) n y.2 in
      let place_is = pos_is (nat_lt (position_or_len (λ z. bytes_eq z y.0.name) (filter_map has_body x.items)) (length (filter_map has_body x.items))) (position_or_len (λ z. bytes_eq z y.0.name) (filter_map has_body x.items)) number.0 number.1 in
      let there : body_at a n ≡ Some body.0 =
      ap (λ bs. slice_get bs n) at.total ∙ ap (slice_get (at.before ++ at.bodies)) (sym number.2 ∙ (λ i. sym at.count i + sym place_is i))
      ∙ slice_behind at.before at.bodies (position_or_len (λ z. bytes_eq z y.0.name) (filter_map has_body x.items)) ∙ body.1 in
      record {
        function = y.0;
        line = here.0;
        here = here.1;
        named = here.2;
        body = subst (IsBody place h a (item_scope m.modules x.items y.0.name) (source.of_function y.0)) (same_some body.0 b (sym there ∙ found)) body.2;
      }

  -- a body of the code is that of an item
  pub record BodyAt (b : CodeBody) : Type 0 where
    pub module_around : tree.Module
    pub place : ℕ
    pub home : Home
    pub at : ModuleAt module_around place home
    pub item : tree.Item
    pub here : IsOf item module_around.items
    pub origin : Source
    pub is_origin : source_of item ≡ Some origin
    pub body : IsBody place home a (item_scope m.modules module_around.items (around_item item)) origin b

  module _ (x : tree.Module) (place : ℕ) (h : Home) (at : ModuleAt x place h) where
    body_if : (i : tree.Item) (o : Option Source) (bodies mid : List CodeBody) → IsOf i x.items → source_of i ≡ o → IsBodyIf place h a (item_scope m.modules x.items (around_item i)) o bodies mid
        → AllByRecursion BodyAt mid → AllByRecursion BodyAt bodies
    body_if i None bodies mid here e r k = subst (AllByRecursion BodyAt) (sym r) k
    body_if i (Some origin) bodies mid here e r k =
        subst (AllByRecursion BodyAt) (sym r.1) (record { module_around = x; place = place; home = h; at = at; item = i; here = here; origin = origin; is_origin = e; body = r.2 }, k)

    bodies_at : (is : List tree.Item) (bodies rest : List CodeBody) → ((i : tree.Item) → IsOf i is → IsOf i x.items) → AreBodies m.modules x.items place h a is bodies rest → AllByRecursion BodyAt rest → AllByRecursion BodyAt bodies
    bodies_at [] bodies rest here r k = subst (AllByRecursion BodyAt) (sym r) k
    bodies_at (i ∷ is) bodies rest here r k =
        body_if i (source_of i) bodies r.0 (here i (inl refl)) refl r.1 (bodies_at is r.0 rest (λ j e. here j (inr e)) r.2 k)

  modules_at : (exceptions : List (List ℕ)) (before ms : List tree.Module) (place k : ℕ) (pre bodies : List CodeBody) → m.modules ≡ before ++ ms → length before ≡ place → a.bodies ≡ pre ++ bodies → length pre ≡ k
      → AllByRecursion (λ (x : tree.Module). IsDistinct bytes_eq (names_of x.items)) ms → AllByRecursion IsKept (modules_sites m.modules before ms) → AreModules m.modules exceptions a place k ms bodies → AllByRecursion BodyAt bodies
  modules_at exceptions before [] place k pre bodies e at total len differ kept r = subst (AllByRecursion BodyAt) (sym r) tt
  modules_at exceptions before (x ∷ ms) place k pre bodies e at total len differ kept r =
      let p = all_parts IsKept (module_sites m.modules before x) (modules_sites m.modules (before ++ x ∷ []) ms) kept in
      let u = used_bodies m.modules x.items place (record { first_body = k; exceptions = exceptions }) a x.items bodies r.0 r.1 in
      let there = ap (λ (xs : List tree.Module). slice_get xs place) e ∙ ap (slice_get (before ++ x ∷ ms)) (sym at ∙ (let z : length before ≡ length before + 0 = omega arith in z)) ∙ slice_behind before (x ∷ ms) 0 in
      let here : ModuleAt x place (record { first_body = k; exceptions = exceptions }) =
      record { there = there; differ = differ.0; kept = λ i here. item_kept x.items [] x.items i here p.0.1; before = pre; bodies = bodies; rest = r.0; total = total; count = len; read = r.1 } in
      bodies_at x place (record { first_body = k; exceptions = exceptions }) here x.items bodies r.0 (λ i y. y) r.1
      (modules_at exceptions (before ++ x ∷ []) ms (place + 1) (k + body_count x.items) (pre ++ u.0) r.0 (e ∙ sym (append_assoc before (x ∷ []) ms)) (length-append before (x ∷ []) ∙ ap (λ j. j + 1) at)
      (total ∙ ap (λ bs. pre ++ bs) u.1 ∙ sym (append_assoc pre u.0 r.0)) (length-append pre u.0 ∙ (λ i. len i + u.2 i)) differ.1 p.1 r.2)

  pub body_there : first_fault m ≡ None → AreModules m.modules (exceptions_of m) a 0 0 m.modules a.bodies → (f : ℕ) (b : CodeBody) → body_at a f ≡ Some b → BodyAt b
  body_there none read f b found =
      let names = distinct m (or_none (fault_of doubles (sites m)) (first (λ rules. fault_of rules (sites m)) (constructs ∷ reaches ∷ [])) none).0 in
      let each = each_none (sites m) passes none in
      let kept = (all_parts IsKept (modules_sites m.modules [] m.modules) (top_site m.modules m.top ∷ []) (all_both _ _ (sites m) each.1.0 each.1.1.0)).0 in
      at_slice BodyAt a.bodies b f (modules_at (exceptions_of m) [] m.modules 0 0 [] a.bodies refl refl refl refl (HasDistinctNames.items names) kept read) found
