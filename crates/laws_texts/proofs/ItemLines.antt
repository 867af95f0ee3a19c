-- The lines of the constructs of items and modules never fall.
use Rattle.std.proofs.Common.{ℕ, Bool, true, false, List, [], ◌∷◌, ◌++◌, append_assoc, Option, Some, None, sym}
use Rattle.model_rules.specs.ModelTree.declared.vocabulary.Word.{Word}
use Rattle.model_rules.specs.ModelTree.declared.vocabulary.Word.TheVariants as w
use Rattle.model_rules.specs.ModelTree.declared.vocabulary.Symbol.TheVariants as mark
use Rattle.model_rules.specs.ModelTree.declared.types.VarType.{VarType}
use Rattle.model_rules.specs.ModelTree.declared.types.Constant.{Constant}
use Rattle.model_rules.specs.ModelTree.declared.types.ConstantForm.{ConstantForm}
use Rattle.model_rules.specs.ModelTree.declared.types.ConstantForm.TheVariants as constant
use Rattle.model_rules.specs.ModelTree.declared.types.Span.{Span}
use Rattle.model_rules.specs.ModelTree.declared.types.Interface.{Interface}
use Rattle.model_rules.specs.ModelTree.declared.types.Interface.TheVariants as interface
use Rattle.model_rules.specs.ModelTree.declared.types.BoundRule.{BoundRule}
use Rattle.model_rules.specs.ModelTree.declared.types.BoundRule.TheVariants as bound
use Rattle.model_rules.specs.ModelTree.declared.types.PortSize.{PortSize}
use Rattle.model_rules.specs.ModelTree.declared.types.Parameter.{Parameter}
use Rattle.model_rules.specs.ModelTree.declared.types.End.{End}
use Rattle.model_rules.specs.ModelTree.declared.items.InitiatorRole.{InitiatorRole}
use Rattle.model_rules.specs.ModelTree.declared.items.InitiatorRole.TheVariants as initiator
use Rattle.model_rules.specs.ModelTree.declared.items.TargetRole.{TargetRole}
use Rattle.model_rules.specs.ModelTree.declared.items.TargetRole.TheVariants as target
use Rattle.model_rules.specs.ModelTree.declared.items.Top.{Top}
use Rattle.model_rules.specs.ModelTree.Tree as tree
use Rattle.model_rules.specs.ModelTree.Lines.{item_line}
use Rattle.model_rules.specs.Scopes.{Scope, item_scope, with_local}
use Rattle.model_rules.specs.Sites.{Part, site, of_parameter, of_end, of_constant, variable_type_sites, interface_sites, constant_sites, block_sites, parameter_sites, answer_sites, function_scope, item_parts, around_item, items_sites, modules_sites, top_site, sites}
use Rattle.model_lexer.specs.Tokens.{word, symbol}
use Rattle.model_lexer.specs.Rules.{◌⨾◌, At, Takes, Each, Maybe}
use Rattle.model_lexer.specs.Items.{DerivesConstantForm, DerivesConstant, DerivesFirstValue, DerivesTime, DerivesStart, DerivesFifoSize, DerivesInterface, DerivesBound, DerivesPortSize, DerivesHandler, DerivesInitiatorRole, DerivesTargetRole, DerivesEnd, DerivesMode, DerivesParameter, DerivesParameters, DerivesAnswer, DerivesItem, DerivesModule, DerivesTop, DerivesModel}
use Rattle.laws_texts.proofs.Along.{Along, nothing, last, past, trail, headed, alone, both, moved, braced, written, maybe}
use Rattle.laws_texts.proofs.StatementLines.{typed_as, typed_behind, typed, member, sensitive, statements}

-- constants, times and sizes

constant_on : (line : ℕ) (f : ConstantForm) (s : Scope) (part : Part) → Along (DerivesConstantForm line f) (site s line part ∷ [])
constant_on line (constant.Number n) s part = alone
constant_on line (constant.Negative n) s part = headed last
constant_on line (constant.Time n u) s part = headed last
constant_on line (constant.Logic v) s part = alone
constant_on line (constant.Truth b) s part = alone

fixed : (s : Scope) (c : Constant) → Along (DerivesConstant c) (constant_sites s (Some c))
fixed s c = constant_on c.line c.form s (of_constant c)

first_value : (s : Scope) (o : Option Constant) → Along (Maybe DerivesFirstValue o) (constant_sites s o)
first_value s None = nothing
first_value s (Some c) = past (fixed s c)

time : (t : Span) → Along (DerivesTime t) []
time t = past last

start : (o : Option Span) → Along (Maybe DerivesStart o) []
start o = maybe DerivesStart (λ t. past (time t)) o

fifo_size : (o : Option ℕ) → Along (Maybe DerivesFifoSize o) []
fifo_size o = maybe DerivesFifoSize (λ n. past last) o

bound_rule : (r : BoundRule) → Along (DerivesBound r) []
bound_rule bound.One = nothing
bound_rule bound.Zero = last
bound_rule bound.All = last

port_size : (o : Option PortSize) → Along (Maybe DerivesPortSize o) []
port_size o = maybe DerivesPortSize (λ p. past (past (trail (bound_rule p.rule) last))) o

-- ports, sockets and bindings

leads_at : (s : Scope) (line : ℕ) (part : Part) (i : Interface) → Along (DerivesInterface (At line) i) (site s line part ∷ interface_sites s i)
leads_at s line part (interface.In t) = headed (typed_as s t)
leads_at s line part (interface.Out t) = headed (typed_as s t)
leads_at s line part (interface.FifoIn t) = headed (typed_as s t)
leads_at s line part (interface.FifoOut t) = headed (typed_as s t)
leads_at s line part interface.Mutex = alone
leads_at s line part interface.Semaphore = alone

leads : (s : Scope) (i : Interface) → Along (DerivesInterface Takes i) (interface_sites s i)
leads s (interface.In t) = past (typed_as s t)
leads s (interface.Out t) = past (typed_as s t)
leads s (interface.FifoIn t) = past (typed_as s t)
leads s (interface.FifoOut t) = past (typed_as s t)
leads s interface.Mutex = last
leads s interface.Semaphore = last

own_handler : (v : Word) (o : Option (List ℕ)) → Along (Maybe (DerivesHandler v) o) []
own_handler v o = maybe (DerivesHandler v) (λ x. past last) o

initiator_role : (r : InitiatorRole) → Along (DerivesInitiatorRole r) []
initiator_role initiator.Pass = last
initiator_role (initiator.Own x) = own_handler w.Bw x

target_role : (r : TargetRole) → Along (DerivesTargetRole r) []
target_role target.Pass = last
target_role (target.Own x y) = trail (own_handler w.Bt x) (own_handler w.Fw y)

binding_end : (s : Scope) (e : End) → Along (DerivesEnd e) (site s e.line (of_end e) ∷ [])
binding_end s e = headed (member e.member)

-- parameters

mode : (b : Bool) (line : ℕ) (s : Scope) (part : Part) (t : VarType) → Along (DerivesMode b line t) (site s line part ∷ variable_type_sites s t)
mode true line s part t = headed (typed s t)
mode false line s part t = typed_behind line s part t

parameter : (s : Scope) (p : Parameter) → Along (DerivesParameter p) (site s p.line (of_parameter p) ∷ variable_type_sites s p.var_type)
parameter s p = trail (mode p.inout p.line s (of_parameter p) p.var_type) last

more_parameters : (s : Scope) (ps : List Parameter) → Along (Each (λ y. Takes (symbol mark.Comma) ⨾ DerivesParameter y) ps) (parameter_sites s ps)
more_parameters s [] = nothing
more_parameters s (p ∷ ps) = both (past (parameter s p)) (more_parameters (with_local s p.name p.var_type) ps)

parameters : (s : Scope) (ps : List Parameter) → Along (DerivesParameters ps) (parameter_sites s ps)
parameters s [] = past last
parameters s (p ∷ ps) = past (trail (both (parameter s p) (more_parameters (with_local s p.name p.var_type) ps)) last)

answer : (s : Scope) (o : Option VarType) → Along (Maybe DerivesAnswer o) (answer_sites s o)
answer s None = nothing
answer s (Some t) = past (typed s t)

-- items

item : (s : Scope) (part : Part) (i : tree.Item) → Along (DerivesItem i) (site s (item_line i) part ∷ item_parts s i)
item s part (tree.signal line x) = headed (both (written (word w.Many) x.many) (both (typed_as s x.value_type) (past (trail (first_value s x.initial) last))))
item s part (tree.resolved line x) = headed (past last)
item s part (tree.clock line c) = headed (past (past (trail (time c.period) (past (trail (time c.high) (trail (start c.start) last))))))
item s part (tree.fifo line t x size) = headed (trail (typed_as s t) (past (trail (fifo_size size) last)))
item s part (tree.plain line kind x) = headed (past last)
item s part (tree.semaphore line x c) = headed (past (trail (fixed s c) last))
item s part (tree.memory line x size) = headed (past (past (past (past last))))
item s part (tree.variable line t x c) = headed (both (typed s t) (past (trail (first_value s c) last)))
item s part (tree.port line i x size) = trail (leads_at s line part i) (past (trail (port_size size) last))
item s part (tree.export line i x) = headed (trail (leads s i) (past last))
item s part (tree.initiator line x role) = headed (past (trail (initiator_role role) last))
item s part (tree.target line x role) = headed (past (trail (target_role role) last))
item s part (tree.instance line kind x) = headed (past (past last))
item s part (tree.bind line left right) = headed (both (binding_end s left) (past (trail (binding_end s right) last)))
item s part (tree.function line f) =
    headed
    (past
    (moved (sym (append_assoc (parameter_sites s f.parameters) (answer_sites s f.answer) (block_sites f.body (function_scope s f))))
    (both (parameters s f.parameters) (both (answer s f.answer) (braced (statements (function_scope s f) f.body))))))
item s part (tree.process line p) =
    headed (past (both (sensitive s p.sensitive) (both (written (word w.DontInitialize) p.dont_initialize) (braced (statements s p.body)))))

items : (ms : List tree.Module) (all before is : List tree.Item) → Along (Each DerivesItem is) (items_sites ms all before is)
items ms all before [] = nothing
items ms all before (i ∷ is) = both (item (item_scope ms all (around_item i)) _ i) (items ms all (before ++ i ∷ []) is)

-- modules

modules : (all before ms : List tree.Module) → Along (Each DerivesModule ms) (modules_sites all before ms)
modules all before [] = nothing
modules all before (m ∷ ms) = both (headed (past (past (trail (items all m.items [] m.items) last)))) (modules all (before ++ m ∷ []) ms)

top : (ms : List tree.Module) (t : Top) → Along (DerivesTop t) (top_site ms t ∷ [])
top ms t = headed (past (past last))

-- a whole text
pub whole : (m : tree.Model) → Along (DerivesModel m) (sites m)
whole m = both (modules m.modules [] m.modules) (top m.modules m.top)
