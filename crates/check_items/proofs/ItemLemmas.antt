-- What is found at items themselves and in their parts.
use Rattle.std.proofs.Common.{◌≡◌, ℕ, ◌+◌, ◌<◌, true, false, not, List, [], ◌∷◌, ◌++◌, map, drop, drop-cons, add-one, get_or, length, Option, Some, None, refl, sym, ap, ◌∙◌}
use Rattle.std.specs.Option.{option_or}
use Rattle.model_tree.specs.Tree as tree
use Rattle.model_tree.specs.Views.{item_of}
use Rattle.model_tree.specs.declared.items.Item.{Item}
use Rattle.model_tree.specs.declared.items.Top.{Top}
use Rattle.model_tree.specs.declared.faults.Fault.{Fault}
use Rattle.model_tree.specs.declared.faults.Kind.{Kind}
use Rattle.model_tree.specs.declared.faults.Kind.TheVariants as kind
use Rattle.model_tree.specs.declared.types.SignalType.{SignalType}
use Rattle.model_tree.specs.declared.types.VarType.{VarType}
use Rattle.model_tree.specs.declared.types.VarType.TheVariants as var_type
use Rattle.model_tree.specs.declared.types.Parameter.{Parameter}
use Rattle.model_tree.specs.declared.types.Constant.{Constant}
use Rattle.model_tree.specs.declared.types.Interface.{Interface}
use Rattle.model_tree.specs.declared.types.PortSize.{PortSize}
use Rattle.model_tree.specs.declared.types.End.{End}
use Rattle.model_tree.specs.declared.items.SignalItem.{SignalItem}
use Rattle.model_tree.specs.declared.items.PlainKind.{PlainKind}
use Rattle.model_tree.specs.declared.items.ClockItem.{ClockItem}
use Rattle.model_tree.specs.declared.items.InitiatorRole.{InitiatorRole}
use Rattle.model_tree.specs.declared.items.TargetRole.{TargetRole}
use Rattle.check_statements.specs.ModelRules.Scopes.{Scope, item_scope, with_local, with_parameters}
use Rattle.check_statements.specs.ModelRules.Operators.{is_integer}
use Rattle.check_statements.specs.ModelRules.Targets.{constant_type}
use Rattle.check_statements.specs.ModelRules.Meanings.{port_size}
use Rattle.check_statements.specs.ModelRules.Names as names
use Rattle.check_statements.specs.ModelRules.Calls as calls
use Rattle.check_statements.specs.ModelRules.Items as items
use Rattle.check_statements.specs.ModelRules.Values as values
use Rattle.check_statements.specs.ModelRules.Sites.{Site, site, of_end, type_site, variable_type_sites, constant_sites, interface_sites, parameter_sites, answer_sites, events_sites, block_sites, item_sites, items_sites, module_sites, modules_sites, around_item, top_site}
use Rattle.check_statements.specs.ModelRules.Passes.{constructs, fault_at, fault_of}
use Rattle.check_statements.specs.CheckExpressions.Findings.{told, told_if}
use Rattle.check_statements.specs.CheckActions.Uses.{site_fault}
use Rattle.check_statements.proofs.Found.{or_nothing, or_or, fault_append}
use Rattle.check_statements.proofs.Blocks.{walked_block}
use Rattle.check_items.specs.Whole.{in_parameters, in_function, in_process, item_fault, items_fault, modules_fault}

-- itself, and two parts
own_and_two : (own : Option Fault) (xs ys : List Site) → option_or (option_or own None) (fault_of constructs (xs ++ ys)) ≡ option_or own (option_or (fault_of constructs xs) (fault_of constructs ys))
own_and_two own xs ys = ap (λ o. option_or o (fault_of constructs (xs ++ ys))) (or_nothing own) ∙ ap (option_or own) (fault_append xs ys)

pub signal_is : (s : Scope) (line : ℕ) (x : SignalItem)
    → item_fault s (tree.signal line x)
    ≡ option_or (told_if kind.TypeDiffers line s.around (values.item_differs (tree.signal line x))) (option_or (fault_of constructs (type_site s x.value_type)) (fault_of constructs (constant_sites s x.initial)))
unfolding item_fault
signal_is s line x = own_and_two (told_if kind.TypeDiffers line s.around (values.item_differs (tree.signal line x))) (type_site s x.value_type) (constant_sites s x.initial)

pub variable_is : (s : Scope) (line : ℕ) (t : VarType) (name : List ℕ) (c : Option Constant)
    → item_fault s (tree.variable line t name c)
    ≡ option_or (told_if kind.TypeDiffers line s.around (values.item_differs (tree.variable line t name c))) (option_or (fault_of constructs (variable_type_sites s t)) (fault_of constructs (constant_sites s c)))
unfolding item_fault
variable_is s line t name c = own_and_two (told_if kind.TypeDiffers line s.around (values.item_differs (tree.variable line t name c))) (variable_type_sites s t) (constant_sites s c)

-- itself by one rule, and one part
pub fifo_is : (s : Scope) (line : ℕ) (t : SignalType) (name : List ℕ) (size : Option ℕ)
    → item_fault s (tree.fifo line t name size) ≡ option_or (told_if kind.FifoSize line name (not (items.is_fifo_size size))) (fault_of constructs (type_site s t))
unfolding item_fault
fifo_is s line t name size = ap (λ o. option_or o (fault_of constructs (type_site s t))) (or_nothing (told_if kind.FifoSize line name (not (items.is_fifo_size size))))

pub port_is : (s : Scope) (line : ℕ) (i : Interface) (name : List ℕ) (size : Option PortSize)
    → item_fault s (tree.port line i name size) ≡ option_or (told_if kind.PortSize line name (not (items.is_port_size (port_size size)))) (fault_of constructs (interface_sites s i))
unfolding item_fault
port_is s line i name size = ap (λ o. option_or o (fault_of constructs (interface_sites s i))) (or_nothing (told_if kind.PortSize line name (not (items.is_port_size (port_size size)))))

pub semaphore_is : (s : Scope) (line : ℕ) (name : List ℕ) (c : Constant)
    → item_fault s (tree.semaphore line name c)
    ≡ option_or (option_or (told_if kind.TypeDiffers line s.around (values.fails is_integer (constant_type c.form))) (told_if kind.SemaphoreRange line name (not (items.is_start c.form)))) (fault_of constructs (constant_sites s (Some c)))
unfolding item_fault
semaphore_is s line name c =
    let t = told_if kind.TypeDiffers line s.around (values.fails is_integer (constant_type c.form)) in
    let r = told_if kind.SemaphoreRange line name (not (items.is_start c.form)) in
    ap (λ o. option_or (option_or t o) (fault_of constructs (constant_sites s (Some c)))) (or_nothing r)

pub clock_is : (s : Scope) (line : ℕ) (c : ClockItem)
    → item_fault s (tree.clock line c) ≡ option_or (told_if kind.LiteralRange line s.around (values.late_item (tree.clock line c))) (told_if kind.BadClock line c.name (not (items.is_clock c)))
unfolding item_fault
clock_is s line c =
    let l = told_if kind.LiteralRange line s.around (values.late_item (tree.clock line c)) in
    let b = told_if kind.BadClock line c.name (not (items.is_clock c)) in
    or_nothing (option_or l (option_or b None)) ∙ ap (option_or l) (or_nothing b)

pub instance_is : (s : Scope) (line : ℕ) (kind_name name : List ℕ) → item_fault s (tree.instance line kind_name name) ≡ told kind.UnknownName line (names.unknown_module s kind_name)
unfolding item_fault
instance_is s line kind_name name = or_nothing (option_or (told kind.UnknownName line (names.unknown_module s kind_name)) None) ∙ or_nothing (told kind.UnknownName line (names.unknown_module s kind_name))

-- items of which no rule asks anything

pub resolved_is : (s : Scope) (line : ℕ) (name : List ℕ) → item_fault s (tree.resolved line name) ≡ None
unfolding item_fault
resolved_is s line name = refl

pub plain_is : (s : Scope) (line : ℕ) (k : PlainKind) (name : List ℕ) → item_fault s (tree.plain line k name) ≡ None
unfolding item_fault
plain_is s line k name = refl

pub memory_is : (s : Scope) (line : ℕ) (name : List ℕ) (size : ℕ) → item_fault s (tree.memory line name size) ≡ None
unfolding item_fault
memory_is s line name size = refl

pub export_is : (s : Scope) (line : ℕ) (i : Interface) (name : List ℕ) → item_fault s (tree.export line i name) ≡ fault_of constructs (interface_sites s i)
unfolding item_fault
export_is s line i name = refl

pub ruleset bare_items = (resolved_is, plain_is, memory_is, export_is)

-- sockets

socket_shape : (line : ℕ) (u w : Option (List ℕ)) (h : Option Fault)
    → option_or (option_or (told kind.UnknownName line (option_or u None)) (option_or (told kind.WrongKind line (option_or w None)) (option_or h None))) None
    ≡ option_or (told kind.UnknownName line u) (option_or (told kind.WrongKind line w) (option_or None h))
socket_shape line (Some u) w h = refl
socket_shape line None (Some w) h = refl
socket_shape line None None (Some h) = refl
socket_shape line None None None = refl

pub initiator_is : (s : Scope) (line : ℕ) (name : List ℕ) (role : InitiatorRole)
    → item_fault s (tree.initiator line name role) ≡ site_fault s line (names.initiator_uses role) false (told kind.BadHandler line (calls.initiator_handler s role))
unfolding item_fault
initiator_is s line name role =
    let us = names.initiator_uses role in
    socket_shape line (names.first (names.unknown_use s) us) (names.first (names.wrong_use s) us) (told kind.BadHandler line (calls.initiator_handler s role))

pub target_is : (s : Scope) (line : ℕ) (name : List ℕ) (role : TargetRole)
    → item_fault s (tree.target line name role) ≡ site_fault s line (names.target_uses role) false (told kind.BadHandler line (calls.target_handler s role))
unfolding item_fault
target_is s line name role =
    let us = names.target_uses role in
    socket_shape line (names.first (names.unknown_use s) us) (names.first (names.wrong_use s) us) (told kind.BadHandler line (calls.target_handler s role))

-- bindings

pub end_is : (s : Scope) (e : End)
    → fault_at constructs (site s e.line (of_end e)) ≡ option_or (told kind.UnknownName e.line (names.unknown_end s e.name e.member)) (told kind.WrongKind e.line (names.wrong_end s e.name e.member))
end_is s e = ap (option_or (told kind.UnknownName e.line (names.unknown_end s e.name e.member))) (or_nothing (told kind.WrongKind e.line (names.wrong_end s e.name e.member)))

pub bind_is : (s : Scope) (line : ℕ) (left right : End)
    → item_fault s (tree.bind line left right)
    ≡ option_or (told kind.BadBinding line (items.binding_in_item s (tree.bind line left right))) (option_or (fault_at constructs (site s left.line (of_end left))) (fault_at constructs (site s right.line (of_end right))))
unfolding item_fault
bind_is s line left right =
    let b = told kind.BadBinding line (items.binding_in_item s (tree.bind line left right)) in
    let l = fault_at constructs (site s left.line (of_end left)) in
    let r = fault_at constructs (site s right.line (of_end right)) in
    ap (λ o. option_or o (option_or l (option_or r None))) (or_nothing b) ∙ ap (λ o. option_or b (option_or l o)) (or_nothing r)

-- types ask nothing of a place but what is around it

pub type_alike : (s t : Scope) → s.around ≡ t.around → (x : VarType) → fault_of constructs (variable_type_sites s x) ≡ fault_of constructs (variable_type_sites t x)
type_alike s t h (var_type.Plain x) = ap (λ name. option_or (option_or (told_if kind.WidthRange x.line name (values.is_wide x.form)) None) None) h
type_alike s t h var_type.Time = refl
type_alike s t h var_type.Process = refl
type_alike s t h var_type.Payload = refl

pub parameters_alike : (s t : Scope) → s.around ≡ t.around → (ps : List Parameter) → fault_of constructs (parameter_sites s ps) ≡ fault_of constructs (parameter_sites t ps)
parameters_alike s t h [] = refl
parameters_alike s t h (p ∷ ps) =
    fault_append (variable_type_sites s p.var_type) (parameter_sites (with_local s p.name p.var_type) ps)
    ∙ ap (λ o. option_or o (fault_of constructs (parameter_sites (with_local s p.name p.var_type) ps))) (type_alike s t h p.var_type)
    ∙ ap (option_or (fault_of constructs (variable_type_sites t p.var_type))) (parameters_alike (with_local s p.name p.var_type) (with_local t p.name p.var_type) h ps)
    ∙ sym (fault_append (variable_type_sites t p.var_type) (parameter_sites (with_local t p.name p.var_type) ps))

pub around_stays : (s : Scope) (ps : List Parameter) → (with_parameters s ps).around ≡ s.around
around_stays s [] = refl
around_stays s (p ∷ ps) = around_stays (with_local s p.name p.var_type) ps

pub answer_alike : (s t : Scope) → s.around ≡ t.around → (x : Option VarType) → fault_of constructs (answer_sites s x) ≡ fault_of constructs (answer_sites t x)
answer_alike s t h None = refl
answer_alike s t h (Some x) = type_alike s t h x

-- items and modules, whatever stands before them

pub items_are : (modules : List tree.Module) (all before is : List tree.Item) → fault_of constructs (items_sites modules all before is) ≡ items_fault modules all is
unfolding item_fault
items_are modules all before [] = refl
items_are modules all before (i ∷ is) =
    let s = item_scope modules all (around_item i) in
    fault_append (item_sites s before i) (items_sites modules all (before ++ i ∷ []) is)
    ∙ ap (option_or (item_fault s i)) (items_are modules all (before ++ i ∷ []) is)

pub modules_are : (all before ms : List tree.Module) → fault_of constructs (modules_sites all before ms) ≡ modules_fault all ms
modules_are all before [] = refl
modules_are all before (m ∷ ms) =
    fault_append (module_sites all before m) (modules_sites all (before ++ m ∷ []) ms)
    ∙ ap (λ o. option_or o (fault_of constructs (modules_sites all (before ++ m ∷ []) ms))) (items_are all m.items [] m.items)
    ∙ ap (option_or (items_fault all m.items m.items)) (modules_are all (before ++ m ∷ []) ms)

-- functions and processes

pub parameters_are : (s : Scope) (ps : List Parameter) → fault_of constructs (parameter_sites s ps) ≡ in_parameters ps s
parameters_are s [] = refl
parameters_are s (p ∷ ps) =
    fault_append (variable_type_sites s p.var_type) (parameter_sites (with_local s p.name p.var_type) ps)
    ∙ ap (option_or (fault_of constructs (variable_type_sites s p.var_type))) (parameters_are (with_local s p.name p.var_type) ps)

pub function_is : (s : Scope) (line : ℕ) (f : tree.FunctionItem) → item_fault s (tree.function line f) ≡ in_function f (record s { answer = f.answer })
unfolding item_fault
function_is s line f =
    let a : Scope = record s { answer = f.answer } in
    let b : Scope = with_parameters a f.parameters in
    let bs = block_sites f.body b in
    fault_append (parameter_sites s f.parameters ++ answer_sites s f.answer) bs
    ∙ ap (λ o. option_or o (fault_of constructs bs)) (fault_append (parameter_sites s f.parameters) (answer_sites s f.answer))
    ∙ sym (or_or (fault_of constructs (parameter_sites s f.parameters)) (fault_of constructs (answer_sites s f.answer)) (fault_of constructs bs))
    ∙ ap (λ o. option_or o (option_or (fault_of constructs (answer_sites s f.answer)) (fault_of constructs bs))) (parameters_alike s a refl f.parameters ∙ parameters_are a f.parameters)
    ∙ ap (λ o. option_or (in_parameters f.parameters a) (option_or o (fault_of constructs bs))) (answer_alike s b (sym (around_stays a f.parameters)) f.answer)
    ∙ ap (λ o. option_or (in_parameters f.parameters a) (option_or (fault_of constructs (answer_sites b f.answer)) o)) (walked_block f.body b)

pub process_is : (s : Scope) (line : ℕ) (p : tree.ProcessItem) → item_fault s (tree.process line p) ≡ in_process p s
unfolding item_fault
process_is s line p =
    fault_append (events_sites s true p.sensitive) (block_sites p.body s) ∙ ap (option_or (fault_of constructs (events_sites s true p.sensitive))) (walked_block p.body s)

-- a walk along items, at the item i of them

pub next_item : (whole old new one : Option Fault) (ms : List tree.Module) (all : List tree.Item) (items : List Item) (i : ℕ) (x : Item) → i < length items → x ≡ get_or items i x
    → whole ≡ option_or old (items_fault ms all (map item_of (drop i items))) → new ≡ option_or old one → one ≡ item_fault (item_scope ms all (around_item (item_of x))) (item_of x)
    → whole ≡ option_or new (items_fault ms all (map item_of (drop (i + 1) items)))
next_item whole old new one ms all items i x within is h k f =
    let rest : List Item = drop (i + 1) items in
    let here : drop i items ≡ x ∷ rest = rw (add-one, drop-cons items i x within, ← is) refl in
    h
    ∙ ap (λ (xs : List Item). option_or old (items_fault ms all (map item_of xs))) here
    ∙ ap (λ o. option_or old (option_or o (items_fault ms all (map item_of rest)))) (sym f)
    ∙ or_or old one (items_fault ms all (map item_of rest))
    ∙ ap (λ o. option_or o (items_fault ms all (map item_of rest))) (sym k)

pub model_is : (ms : List tree.Module) (top : Top) → fault_of constructs (modules_sites ms [] ms ++ top_site ms top ∷ []) ≡ option_or (modules_fault ms ms) (fault_of constructs (top_site ms top ∷ []))
model_is ms top =
    fault_append (modules_sites ms [] ms) (top_site ms top ∷ []) ∙ ap (λ o. option_or o (fault_of constructs (top_site ms top ∷ []))) (modules_are ms [] ms)

pub told_or : (k : Kind) (line : ℕ) (a b : Option (List ℕ)) → option_or (told k line a) (told k line b) ≡ told k line (option_or a b)
told_or k line None b = refl
told_or k line (Some a) b = refl
