-- What a rule says of each port of a model.
use Rattle.std.proofs.Common.{◌≡◌, ℕ, None, List, [], ◌∷◌, ◌++◌, refl}
use Rattle.std.specs.Prelude.{not, option_map, Option, Some}
use Rattle.elaborate_objects.specs.ModelTree.Tree as tree
use Rattle.elaborate_objects.specs.ModelTree.Lines.{item_line}
use Rattle.elaborate_objects.specs.ModelRules.Scopes.{Scope, item_scope}
use Rattle.elaborate_objects.specs.ModelRules.Meanings.{port_size}
use Rattle.elaborate_objects.specs.ModelRules.Sites as part
use Rattle.elaborate_objects.specs.ModelRules.Sites.{Site, site, item_parts, item_sites, around_item, items_sites, module_sites, modules_sites, top_site}
use Rattle.elaborate_objects.specs.ModelRules.Items.{port_range, is_port_size}
use Rattle.elaborate_objects.specs.ModelRules.Passes.{constructs, fault_by, fault_at, fault_of, first_fault}
use Rattle.elaborate_objects.proofs.ModelRules.Firsts.{all_none}
use Rattle.laws_code.proofs.Typed.{not_named, parts_none, head_none, same_false}
use Rattle.laws_code.proofs.Models.{constructs_none}
use Rattle.laws_design.specs.Sizes.{IsSized, AreSized, ModulesAreSized}

pub mapped_none : {A B : Type 0} (f : A → B) (o : Option A) → option_map f o ≡ None → o ≡ None
mapped_none f None h = refl
mapped_none f (Some x) h = cc

range_kept : (x : Site) → fault_at constructs x ≡ None → port_range x ≡ None
range_kept x h = mapped_none _ (port_range x) (all_none (fault_by x) constructs h).1.1.1.1.1.1.1.1.1.1.1.1.0

module _ (s : Scope) (line : ℕ) (before : List tree.Item) where
  item_sized : (i : tree.Item) → port_range (site s line (part.of_item before i)) ≡ None → IsSized i
  item_sized (tree.signal l x) h = tt
  item_sized (tree.resolved l name) h = tt
  item_sized (tree.clock l c) h = tt
  item_sized (tree.fifo l t name size) h = tt
  item_sized (tree.plain l kind name) h = tt
  item_sized (tree.semaphore l name c) h = tt
  item_sized (tree.memory l name size) h = tt
  item_sized (tree.variable l t name c) h = tt
  item_sized (tree.port l i name size) h = same_false (is_port_size (port_size size)) (not_named (not (is_port_size (port_size size))) name h)
  item_sized (tree.export l i name) h = tt
  item_sized (tree.initiator l name role) h = tt
  item_sized (tree.target l name role) h = tt
  item_sized (tree.instance l kind name) h = tt
  item_sized (tree.bind l left right) h = tt
  item_sized (tree.function l f) h = tt
  item_sized (tree.process l p) h = tt

items_sized : (modules : List tree.Module) (all before is : List tree.Item) → fault_of constructs (items_sites modules all before is) ≡ None → AreSized is
items_sized modules all before [] h = tt
items_sized modules all before (i ∷ is) h =
    let s = item_scope modules all (around_item i) in
    let p = parts_none (item_sites s before i) (items_sites modules all (before ++ i ∷ []) is) h in
    let x = site s (item_line i) (part.of_item before i) in
    let q = head_none x (item_parts s i) p.0 in
    (item_sized s (item_line i) before i (range_kept x q.0), items_sized modules all (before ++ i ∷ []) is p.1)

modules_sized : (all before ms : List tree.Module) → fault_of constructs (modules_sites all before ms) ≡ None → ModulesAreSized ms
modules_sized all before [] h = tt
modules_sized all before (m ∷ ms) h =
    let p = parts_none (module_sites all before m) (modules_sites all (before ++ m ∷ []) ms) h in
    let q = head_none (site (item_scope all m.items m.name) m.line (part.of_module before m)) (items_sites all m.items [] m.items) p.0 in
    (items_sized all m.items [] m.items q.1, modules_sized all (before ++ m ∷ []) ms p.1)

pub model_sized : (m : tree.Model) → first_fault m ≡ None → ModulesAreSized m.modules
model_sized m h =
    let p = parts_none (modules_sites m.modules [] m.modules) (top_site m.modules m.top ∷ []) (constructs_none m h) in
    modules_sized m.modules [] m.modules p.0
