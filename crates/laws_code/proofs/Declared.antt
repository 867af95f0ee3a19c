-- The types of what a module declares are known, where no width is out of range.
use Rattle.std.proofs.Common.{◌≡◌, ℕ, Bool, true, false, cond, List, [], ◌∷◌, ◌++◌, Option, Some, None, refl, subst}
use Rattle.std.specs.Prelude.{⊤, is_some, option_map, find}
use Rattle.std.specs.List.{AllByRecursion, cons_option}
use Rattle.code_rules.specs.ModelTree.Tree as tree
use Rattle.code_rules.specs.ModelTree.Lines.{item_line}
use Rattle.code_rules.specs.ModelTree.declared.types.VarType.{VarType}
use Rattle.code_rules.specs.ModelTree.declared.types.Parameter.{Parameter}
use Rattle.code_rules.specs.ModelTree.declared.types.Interface.{Interface}
use Rattle.code_rules.specs.ModelTree.declared.types.Interface.TheVariants as interface
use Rattle.code_rules.specs.ModelTree.declared.items.PlainKind.{PlainKind}
use Rattle.code_rules.specs.ModelTree.declared.items.PlainKind.TheVariants as plain
use Rattle.code_rules.specs.ModelRules.Meanings.{Declared, declaration, declarations, plain_meaning, port_meaning, variable_type}
use Rattle.code_rules.specs.ModelRules.Scopes.{Scope, is_declared, item_scope, with_local, with_parameters}
use Rattle.code_rules.specs.ModelRules.declared.meanings.Meaning.{Meaning}
use Rattle.code_rules.specs.ModelRules.Sites as part
use Rattle.code_rules.specs.ModelRules.Sites.{site, type_site, variable_type_sites, interface_sites, constant_sites, item_parts, item_sites, around_item, items_sites, parameter_sites}
use Rattle.code_rules.specs.ModelRules.Passes.{constructs, fault_of}
use Rattle.laws_code.specs.Known.{is_type_known, TypesAreKnown}
use Rattle.laws_code.proofs.Typed.{parts_none, head_none}
use Rattle.laws_code.specs.HasCode.{AnswerHasType}
use Rattle.laws_code.proofs.Known.{type_known, variable_known, local_known}

abbrev pub IsKnown : Declared → Type 0
IsKnown d = is_type_known d.meaning ≡ true

abbrev IsKnownIf : Option Declared → Type 0
IsKnownIf None = ⊤
IsKnownIf (Some d) = IsKnown d

plain_known : (k : PlainKind) → is_type_known (plain_meaning k) ≡ true
plain_known plain.Mutex = refl
plain_known plain.Event = refl
plain_known plain.Keeper = refl

port_known : (s : Scope) (i : Interface) (size : ℕ) → fault_of constructs (interface_sites s i) ≡ None → is_type_known (port_meaning i size) ≡ true
port_known s (interface.In t) size h = type_known s t h
port_known s (interface.Out t) size h = type_known s t h
port_known s (interface.FifoIn t) size h = type_known s t h
port_known s (interface.FifoOut t) size h = type_known s t h
port_known s interface.Mutex size h = refl
port_known s interface.Semaphore size h = refl

declaration_known : (s : Scope) (i : tree.Item) → fault_of constructs (item_parts s i) ≡ None → IsKnownIf (declaration i)
declaration_known s (tree.signal line x) h = type_known s x.value_type (parts_none (type_site s x.value_type) (constant_sites s x.initial) h).0
declaration_known s (tree.resolved line name) h = refl
declaration_known s (tree.clock line c) h = refl
declaration_known s (tree.fifo line t name size) h = type_known s t h
declaration_known s (tree.plain line kind name) h = plain_known kind
declaration_known s (tree.semaphore line name c) h = refl
declaration_known s (tree.memory line name size) h = refl
declaration_known s (tree.variable line t name c) h = variable_known s t (parts_none (variable_type_sites s t) (constant_sites s c) h).0
declaration_known s (tree.port line i name size) h = port_known s i _ h
declaration_known s (tree.export line i name) h = refl
declaration_known s (tree.initiator line name role) h = refl
declaration_known s (tree.target line name role) h = refl
declaration_known s (tree.instance line kind name) h = refl
declaration_known s (tree.bind line left right) h = tt
declaration_known s (tree.function line f) h = refl
declaration_known s (tree.process line p) h = refl

with_declared : (o : Option Declared) (ds : List Declared) → IsKnownIf o → AllByRecursion IsKnown ds → AllByRecursion IsKnown (cons_option o ds)
with_declared None ds h k = k
with_declared (Some d) ds h k = (h, k)

pub items_known : (modules : List tree.Module) (all before is : List tree.Item) → fault_of constructs (items_sites modules all before is) ≡ None → AllByRecursion IsKnown (declarations is)
items_known modules all before [] h = tt
items_known modules all before (i ∷ is) h =
    let p = parts_none (item_sites (item_scope modules all (around_item i)) before i) (items_sites modules all (before ++ i ∷ []) is) h in
    let q = head_none (site (item_scope modules all (around_item i)) (item_line i) (part.of_item before i)) (item_parts (item_scope modules all (around_item i)) i) p.0 in
    with_declared (declaration i) (declarations is) (declaration_known (item_scope modules all (around_item i)) i q.1) (items_known modules all (before ++ i ∷ []) is p.1)

-- what is found among them
abbrev IsTypeKnownIf : Option Meaning → Type 0
IsTypeKnownIf None = ⊤
IsTypeKnownIf (Some m) = is_type_known m ≡ true

by_test : (b : Bool) (d : Declared) (o : Option Declared) (m : Meaning) → IsKnown d → (option_map (λ (x : Declared). x.meaning) o ≡ Some m → is_type_known m ≡ true)
    → option_map (λ (x : Declared). x.meaning) (cond b (Some d) o) ≡ Some m → is_type_known m ≡ true
by_test true d o m h rest e = subst IsTypeKnownIf e h
by_test false d o m h rest e = rest e

found_known : (p : Declared → Bool) (ds : List Declared) (m : Meaning) → AllByRecursion IsKnown ds → option_map (λ (d : Declared). d.meaning) (find p ds) ≡ Some m → is_type_known m ≡ true
found_known p [] m h e = cc
found_known p (d ∷ ds) m h e = by_test (p d) d (find p ds) m h.0 (found_known p ds m h.1) e

pub scope_known : (modules : List tree.Module) (items : List tree.Item) (around : List ℕ) → AllByRecursion IsKnown (declarations items) → TypesAreKnown (item_scope modules items around)
scope_known modules items around h name m e = found_known (is_declared name) (declarations items) m h e

-- parameters and answers
abbrev pub AreTyped : List Parameter → Type 0
AreTyped ps = AllByRecursion (λ (p : Parameter). is_some (variable_type p.var_type) ≡ true) ps

pub parameters_typed : (s : Scope) (ps : List Parameter) → fault_of constructs (parameter_sites s ps) ≡ None → AreTyped ps
parameters_typed s [] h = tt
parameters_typed s (p ∷ ps) h =
    let q = head_none (site s p.line (part.of_parameter p)) (variable_type_sites s p.var_type ++ parameter_sites (with_local s p.name p.var_type) ps) h in
    let r = parts_none (variable_type_sites s p.var_type) (parameter_sites (with_local s p.name p.var_type) ps) q.1 in
    (variable_known s p.var_type r.0, parameters_typed (with_local s p.name p.var_type) ps r.1)

pub parameters_known : (s : Scope) (ps : List Parameter) → TypesAreKnown s → AreTyped ps → TypesAreKnown (with_parameters s ps)
parameters_known s [] known h = known
parameters_known s (p ∷ ps) known h = parameters_known (with_local s p.name p.var_type) ps (local_known s p.name p.var_type known h.0) h.1

pub answer_typed : (s : Scope) (t : Option VarType) → fault_of constructs (Rattle.code_rules.specs.ModelRules.Sites.answer_sites s t) ≡ None → AnswerHasType t
answer_typed s None h = tt
answer_typed s (Some t) h = variable_known s t h
