-- Each item of a model that breaks no rule on one construct breaks none, and none of its parts does.
use Rattle.std.proofs.Common.{◌≡◌, ℕ, zero, suc, List, [], ◌∷◌, ◌++◌, Some, None, ap, subst}
use Rattle.std.specs.Prelude.{slice_get, unwrap_or}
use Rattle.std.specs.List.{AllByRecursion}
use Rattle.elaborate_objects.specs.ModelTree.Tree as tree
use Rattle.elaborate_objects.specs.ModelTree.Lines.{item_line}
use Rattle.elaborate_objects.specs.ModelRules.Scopes.{item_scope}
use Rattle.elaborate_objects.specs.ModelRules.Sites as part
use Rattle.elaborate_objects.specs.ModelRules.Sites.{site, item_parts, item_sites, around_item, items_sites, module_sites, modules_sites, top_site, sites}
use Rattle.elaborate_objects.specs.ModelRules.Names.{first}
use Rattle.elaborate_objects.specs.ModelRules.Passes.{doubles, constructs, reaches, fault_at, fault_of, first_fault}
use Rattle.elaborate_objects.specs.ModelRules.Distinct.{HasDistinctNames}
use Rattle.elaborate_objects.proofs.ModelRules.Firsts.{or_none}
use Rattle.elaborate_objects.proofs.ModelRules.Doubles.{distinct}
use Rattle.laws_code.proofs.Typed.{parts_none, head_none}
use Rattle.laws_code.proofs.Models.{constructs_none}
use Rattle.laws_code.proofs.Declared.{IsKnown, items_known}
use Rattle.elaborate_objects.specs.ModelRules.Meanings.{declarations}

pub record IsKept (ms : List tree.Module) (all : List tree.Item) (i : tree.Item) : Type 0 where
  pub before : List tree.Item
  pub own : fault_at constructs (site (item_scope ms all (around_item i)) (item_line i) (part.of_item before i)) ≡ None
  pub parts : fault_of constructs (item_parts (item_scope ms all (around_item i)) i) ≡ None

items_kept : (ms : List tree.Module) (all before is : List tree.Item) → fault_of constructs (items_sites ms all before is) ≡ None → AllByRecursion (IsKept ms all) is
items_kept ms all before [] h = tt
items_kept ms all before (i ∷ is) h =
    let p = parts_none (item_sites (item_scope ms all (around_item i)) before i) (items_sites ms all (before ++ i ∷ []) is) h in
    let q = head_none (site (item_scope ms all (around_item i)) (item_line i) (part.of_item before i)) (item_parts (item_scope ms all (around_item i)) i) p.0 in
    (record { before = before; own = q.0; parts = q.1 }, items_kept ms all (before ++ i ∷ []) is p.1)

abbrev pub ItemsKept : List tree.Module → tree.Module → Type 0
ItemsKept ms x = AllByRecursion (IsKept ms x.items) x.items

modules_kept : (all before ms : List tree.Module) → fault_of constructs (modules_sites all before ms) ≡ None → AllByRecursion (ItemsKept all) ms
modules_kept all before [] h = tt
modules_kept all before (x ∷ ms) h =
    let p = parts_none (module_sites all before x) (modules_sites all (before ++ x ∷ []) ms) h in
    let q = head_none (site (item_scope all x.items x.name) x.line (part.of_module before x)) (items_sites all x.items [] x.items) p.0 in
    (items_kept all x.items [] x.items q.1, modules_kept all (before ++ x ∷ []) ms p.1)

pub kept : (m : tree.Model) → first_fault m ≡ None → AllByRecursion (ItemsKept m.modules) m.modules
kept m none = modules_kept m.modules [] m.modules (parts_none (modules_sites m.modules [] m.modules) (top_site m.modules m.top ∷ []) (constructs_none m none)).0

pub top_kept : (m : tree.Model) → first_fault m ≡ None → fault_at constructs (top_site m.modules m.top) ≡ None
top_kept m none = (head_none (top_site m.modules m.top) [] (parts_none (modules_sites m.modules [] m.modules) (top_site m.modules m.top ∷ []) (constructs_none m none)).1).0

pub names_differ : (m : tree.Model) → first_fault m ≡ None → HasDistinctNames m
names_differ m none = distinct m (or_none (fault_of doubles (sites m)) (first (λ rules. fault_of rules (sites m)) (constructs ∷ reaches ∷ [])) none).0

-- the types that modules declare are known
abbrev pub ItemsKnown : tree.Module → Type 0
ItemsKnown x = AllByRecursion IsKnown (declarations x.items)

modules_known : (all before ms : List tree.Module) → fault_of constructs (modules_sites all before ms) ≡ None → AllByRecursion ItemsKnown ms
modules_known all before [] h = tt
modules_known all before (x ∷ ms) h =
    let p = parts_none (module_sites all before x) (modules_sites all (before ++ x ∷ []) ms) h in
    let q = head_none (site (item_scope all x.items x.name) x.line (part.of_module before x)) (items_sites all x.items [] x.items) p.0 in
    (items_known all x.items [] x.items q.1, modules_known all (before ++ x ∷ []) ms p.1)

pub known : (m : tree.Model) → first_fault m ≡ None → AllByRecursion ItemsKnown m.modules
known m none = modules_known m.modules [] m.modules (parts_none (modules_sites m.modules [] m.modules) (top_site m.modules m.top ∷ []) (constructs_none m none)).0

pub all_at : {A : Type 0} (P : A → Type 0) (xs : List A) (k : ℕ) (x : A) → AllByRecursion P xs → slice_get xs k ≡ Some x → P x
all_at P [] k x h e = cc
all_at P (y ∷ ys) zero x h e = subst P (ap (λ o. unwrap_or o x) e) h.0
all_at P (y ∷ ys) (suc k) x h e = all_at P ys k x h.1 e
