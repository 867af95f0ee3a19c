-- The constructs of a model in text order, an outer one before its parts, each with its line and what is visible there.
use Rattle.std.specs.Prelude.{ℕ, Bool, true, false, List, [], ◌∷◌, ◌++◌, unwrap_or, Option, Some, None}
use Rattle.flat_design.specs.ModelTree.Tree as tree
use Rattle.flat_design.specs.ModelTree.Parts as made
use Rattle.flat_design.specs.ModelTree.Parts.{Access, parts_of, joined}
use Rattle.flat_design.specs.ModelTree.Lines.{item_line, first_line}
use Rattle.flat_design.specs.ModelTree.declared.types.SignalType.{SignalType}
use Rattle.flat_design.specs.ModelTree.declared.types.VarType.{VarType}
use Rattle.flat_design.specs.ModelTree.declared.types.VarType.TheVariants as var_type
use Rattle.flat_design.specs.ModelTree.declared.types.Interface.{Interface}
use Rattle.flat_design.specs.ModelTree.declared.types.Interface.TheVariants as interface
use Rattle.flat_design.specs.ModelTree.declared.types.Constant.{Constant}
use Rattle.flat_design.specs.ModelTree.declared.types.Parameter.{Parameter}
use Rattle.flat_design.specs.ModelTree.declared.types.End.{End}
use Rattle.flat_design.specs.ModelTree.declared.statements.Who.{Who}
use Rattle.flat_design.specs.ModelTree.declared.statements.Who.TheVariants as who
use Rattle.flat_design.specs.ModelTree.declared.items.Top.{Top}
use Rattle.model_rules.specs.declared.needs.Need.{Need}
use Rattle.model_rules.specs.declared.needs.Need.TheVariants as need_of
use Rattle.model_rules.specs.Meanings.{declared_name}
use Rattle.model_rules.specs.Scopes.{Scope, item_scope, with_local, with_parameters, locals_in_block, past, behind, in_unwind}

-- A construct. A module and an item stand with those before them; a channel with what it has to be; an event with whether it
-- is one of a static sensitivity; a member of an expression with whether an index follows.
pub data Part : Type 0 where
  of_module : List tree.Module → tree.Module → Part
  of_top : Top → Part
  of_item : List tree.Item → tree.Item → Part
  of_type : SignalType → Part
  of_constant : Constant → Part
  of_end : End → Part
  of_parameter : Parameter → Part
  of_event : Bool → tree.Event → Part
  of_channel : Need → tree.Channel → Part
  of_member : Bool → tree.Expression → List ℕ → Part
  of_expression : tree.Expression → Part
  of_statement : tree.Statement → Part
  of_operation : tree.Operation → Part
  of_who : Who → Part

pub record Site : Type 0 where
  pub line : ℕ
  pub part : Part
  pub scope : Scope

abbrev pub site : Scope → ℕ → Part → Site
site s line part = record { line = line; part = part; scope = s }

-- types

abbrev pub type_site : Scope → SignalType → List Site
type_site s t = site s t.line (of_type t) ∷ []

abbrev pub variable_type_sites : Scope → VarType → List Site
variable_type_sites s (var_type.Plain t) = type_site s t
variable_type_sites s var_type.Time = []
variable_type_sites s var_type.Process = []
variable_type_sites s var_type.Payload = []

abbrev pub interface_sites : Scope → Interface → List Site
interface_sites s (interface.In t) = type_site s t
interface_sites s (interface.Out t) = type_site s t
interface_sites s (interface.FifoIn t) = type_site s t
interface_sites s (interface.FifoOut t) = type_site s t
interface_sites s interface.Mutex = []
interface_sites s interface.Semaphore = []

abbrev pub constant_sites : Scope → Option Constant → List Site
constant_sites s None = []
constant_sites s (Some c) = site s c.line (of_constant c) ∷ []

-- expressions: what a name in one has to be tells its place in the outer one

-- a member with an index, or without one
abbrev pub has_index : Need → Bool
has_index need_of.Indexed = true
has_index other = false

abbrev pub expression_site : Scope → tree.Expression → Site
expression_site s e = site s (first_line e) (of_expression e)

abbrev pub channel_site : Scope → Need → tree.Channel → Site
channel_site s need c = site s c.line (of_channel need c)

abbrev pub sites_as : Need → Scope → tree.Expression → List Site
sites_as need s (tree.number line n) = expression_site s (tree.number line n) ∷ []
sites_as need s (tree.time line n unit) = expression_site s (tree.time line n unit) ∷ []
sites_as need s (tree.logic line digits) = expression_site s (tree.logic line digits) ∷ []
sites_as need s (tree.truth line b) = expression_site s (tree.truth line b) ∷ []
sites_as need s (tree.now line) = expression_site s (tree.now line) ∷ []
sites_as need s (tree.myself line) = expression_site s (tree.myself line) ∷ []
sites_as need s (tree.constant line word) = expression_site s (tree.constant line word) ∷ []
sites_as need s (tree.paren line e) = expression_site s (tree.paren line e) ∷ sites_as need_of.Readable s e
sites_as need s (tree.convert line c e) = expression_site s (tree.convert line c e) ∷ sites_as need_of.Readable s e
sites_as need s (tree.to_vector line width e) = expression_site s (tree.to_vector line width e) ∷ sites_as need_of.Readable s e
sites_as need s (tree.concat line upper lower) = expression_site s (tree.concat line upper lower) ∷ sites_as need_of.Readable s upper ++ sites_as need_of.Readable s lower
sites_as need s (tree.named line name) = channel_site s need (record { line = line; name = name; place = tree.first }) ∷ []
sites_as need s (tree.placed line name n) = channel_site s need (record { line = line; name = name; place = tree.place_number n }) ∷ []
sites_as need s (tree.placed_by line name e) = channel_site s need (record { line = line; name = name; place = tree.computed e }) ∷ sites_as need_of.Readable s e
sites_as need s (tree.member e name) = site s (first_line e) (of_member (has_index need) e name) ∷ sites_as need_of.Object s e
sites_as need s (tree.element e index) = expression_site s (tree.element e index) ∷ sites_as need_of.Indexed s e ++ sites_as need_of.Readable s index
sites_as need s (tree.slice e high low) = expression_site s (tree.slice e high low) ∷ sites_as need_of.Readable s e
sites_as need s (tree.unary line op e) = expression_site s (tree.unary line op e) ∷ sites_as need_of.Readable s e
sites_as need s (tree.binary op left right) = expression_site s (tree.binary op left right) ∷ sites_as need_of.Readable s left ++ sites_as need_of.Readable s right

abbrev pub expression_sites : Scope → tree.Expression → List Site
expression_sites s e = sites_as need_of.Readable s e

abbrev pub option_sites : Scope → Option tree.Expression → List Site
option_sites s None = []
option_sites s (Some e) = expression_sites s e

abbrev pub argument_sites : Scope → List tree.Expression → List Site
argument_sites s [] = []
argument_sites s (e ∷ es) = expression_sites s e ++ argument_sites s es

-- channels and events

abbrev pub place_sites : Scope → tree.Place → List Site
place_sites s tree.first = []
place_sites s (tree.place_number n) = []
place_sites s (tree.computed e) = expression_sites s e

abbrev pub channel_sites : Scope → Need → tree.Channel → List Site
channel_sites s need c = channel_site s need c ∷ place_sites s c.place

-- what the channel of an event has to be: where no member is written it is the event itself
abbrev pub event_need : Bool → Option (List ℕ) → Need
event_need true None = need_of.StaticEvent
event_need true (Some name) = need_of.StaticObject
event_need false None = need_of.Event
event_need false (Some name) = need_of.Object

abbrev pub event_sites : Scope → Bool → tree.Event → List Site
event_sites s static e = site s e.channel.line (of_event static e) ∷ channel_sites s (event_need static e.member) e.channel

abbrev pub events_sites : Scope → Bool → List tree.Event → List Site
events_sites s static [] = []
events_sites s static (e ∷ es) = event_sites s static e ++ events_sites s static es

abbrev pub waiting_sites : Scope → tree.Waiting → List Site
waiting_sites s tree.static = []
waiting_sites s tree.delta = []
waiting_sites s (tree.for_ e) = expression_sites s e
waiting_sites s (tree.one e t) = event_sites s false e ++ option_sites s t
waiting_sites s (tree.any es t) = events_sites s false es ++ option_sites s t
waiting_sites s (tree.all es t) = events_sites s false es ++ option_sites s t

abbrev pub notification_sites : Scope → tree.Notification → List Site
notification_sites s tree.immediate = []
notification_sites s tree.next_delta = []
notification_sites s (tree.after e) = expression_sites s e

-- statements

abbrev pub who_line : Who → ℕ
who_line (who.Named line name) = line
who_line (who.Myself line) = line

abbrev pub who_sites : Scope → Who → List Site
who_sites s w = site s (who_line w) (of_who w) ∷ []

abbrev pub operation_parts : Scope → tree.Operation → List Site
operation_parts s (tree.call name arguments) = argument_sites s arguments
operation_parts s (tree.read c) = channel_sites s need_of.Taken c
operation_parts s (tree.nb_read c name) = channel_sites s need_of.Taken c
operation_parts s (tree.nb_write c e) = channel_sites s need_of.Put c ++ expression_sites s e
operation_parts s (tree.trylock c) = channel_sites s need_of.Mutex c
operation_parts s (tree.unlock c) = channel_sites s need_of.Mutex c
operation_parts s (tree.sem_trywait c) = channel_sites s need_of.Semaphore c
operation_parts s (tree.nb_transport socket p phase delay) = []

-- what the channel of an action has to be
abbrev pub access_need : Access → Need
access_need made.written = need_of.Written
access_need made.mutex = need_of.Mutex
access_need made.semaphore = need_of.Semaphore

abbrev pub part_sites : Scope → made.Part → List Site
part_sites s (made.name r name) = []
part_sites s (made.next_name r name) = []
part_sites s (made.reaching_name r name all) = []
part_sites s (made.text x) = []
part_sites s (made.term u e) = expression_sites s e
part_sites s (made.term_if u e) = option_sites s e
part_sites s (made.next_term u e) = expression_sites s e
part_sites s (made.next_term_if u e) = option_sites s e
part_sites s (made.channel u c) = channel_sites s (access_need u) c
part_sites s (made.waiting w) = waiting_sites s w
part_sites s (made.notification n) = notification_sites s n
part_sites s (made.instance x) = argument_sites s x.arguments ++ events_sites s true x.sensitive
part_sites s (made.process w) = who_sites s w
part_sites s (made.reaching_process w all) = who_sites s w

abbrev pub action_parts : Scope → tree.Action → List Site
action_parts s a = joined (part_sites s) (λ xs ys. xs ++ ys) [] (parts_of a)

abbrev mutual
  pub statement_sites : tree.Statement → Scope → List Site
  statement_sites (tree.var line t name e) s = site s line (of_statement (tree.var line t name e)) ∷ variable_type_sites s t ++ option_sites s e
  statement_sites (tree.assign line target e) s = site s line (of_statement (tree.assign line target e)) ∷ option_sites s target.index ++ expression_sites s e
  statement_sites (tree.operate line name at o) s = site s line (of_statement (tree.operate line name at o)) ∷ site s at (of_operation o) ∷ operation_parts s o
  statement_sites (tree.act line a) s = site s line (of_statement (tree.act line a)) ∷ action_parts s a
  statement_sites (tree.if_ line e body other) s =
      site s line (of_statement (tree.if_ line e body other)) ∷ expression_sites s e ++ block_sites body s ++ else_sites other (past (locals_in_block body) s)
  statement_sites (tree.while_ line e body) s = site s line (of_statement (tree.while_ line e body)) ∷ expression_sites s e ++ block_sites body s
  statement_sites (tree.guard line body undo) s =
      site s line (of_statement (tree.guard line body undo)) ∷ block_sites body s ++ block_sites undo (in_unwind (past (locals_in_block body) s))
  statement_sites (tree.try_ line body handlers) s =
      site s line (of_statement (tree.try_ line body handlers)) ∷ block_sites body s ++ handler_sites handlers (past (locals_in_block body) s)

  pub block_sites : tree.Block → Scope → List Site
  block_sites tree.over s = []
  block_sites (tree.then x xs) s = statement_sites x s ++ block_sites xs (behind x s)

  pub else_sites : tree.Else → Scope → List Site
  else_sites tree.no_else s = []
  else_sites (tree.else_block body) s = block_sites body s

  pub handler_sites : tree.Handlers → Scope → List Site
  handler_sites tree.no_more s = []
  handler_sites (tree.handler name body more) s = block_sites body s ++ handler_sites more (past (locals_in_block body) s)

-- items

abbrev pub parameter_sites : Scope → List Parameter → List Site
parameter_sites s [] = []
parameter_sites s (p ∷ ps) = site s p.line (of_parameter p) ∷ variable_type_sites s p.var_type ++ parameter_sites (with_local s p.name p.var_type) ps

abbrev pub answer_sites : Scope → Option VarType → List Site
answer_sites s None = []
answer_sites s (Some t) = variable_type_sites s t

-- the scope of a function's body
abbrev pub function_scope : Scope → tree.FunctionItem → Scope
function_scope s f = with_parameters (record s { answer = f.answer }) f.parameters

abbrev pub item_parts : Scope → tree.Item → List Site
item_parts s (tree.signal line x) = type_site s x.value_type ++ constant_sites s x.initial
item_parts s (tree.resolved line name) = []
item_parts s (tree.clock line c) = []
item_parts s (tree.fifo line t name size) = type_site s t
item_parts s (tree.plain line kind name) = []
item_parts s (tree.semaphore line name c) = constant_sites s (Some c)
item_parts s (tree.memory line name size) = []
item_parts s (tree.variable line t name c) = variable_type_sites s t ++ constant_sites s c
item_parts s (tree.port line i name size) = interface_sites s i
item_parts s (tree.export line i name) = interface_sites s i
item_parts s (tree.initiator line name role) = []
item_parts s (tree.target line name role) = []
item_parts s (tree.instance line kind name) = []
item_parts s (tree.bind line left right) = site s left.line (of_end left) ∷ site s right.line (of_end right) ∷ []
item_parts s (tree.function line f) = parameter_sites s f.parameters ++ answer_sites s f.answer ++ block_sites f.body (function_scope s f)
item_parts s (tree.process line p) = events_sites s true p.sensitive ++ block_sites p.body s

-- of a binding there is no name
abbrev pub around_item : tree.Item → List ℕ
around_item i = unwrap_or (declared_name i) []

abbrev pub item_sites : Scope → List tree.Item → tree.Item → List Site
item_sites s before i = site s (item_line i) (of_item before i) ∷ item_parts s i

-- modules

abbrev pub items_sites : List tree.Module → List tree.Item → List tree.Item → List tree.Item → List Site
items_sites modules all before [] = []
items_sites modules all before (i ∷ is) = item_sites (item_scope modules all (around_item i)) before i ++ items_sites modules all (before ++ i ∷ []) is

abbrev pub module_sites : List tree.Module → List tree.Module → tree.Module → List Site
module_sites modules before m = site (item_scope modules m.items m.name) m.line (of_module before m) ∷ items_sites modules m.items [] m.items

abbrev pub modules_sites : List tree.Module → List tree.Module → List tree.Module → List Site
modules_sites all before [] = []
modules_sites all before (m ∷ ms) = module_sites all before m ++ modules_sites all (before ++ m ∷ []) ms

abbrev pub top_site : List tree.Module → Top → Site
top_site modules top = site (item_scope modules [] top.name) top.line (of_top top)

abbrev pub sites : tree.Model → List Site
sites m = modules_sites m.modules [] m.modules ++ top_site m.modules m.top ∷ []
