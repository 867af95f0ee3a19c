-- What the versions of the language tell apart in a tree: its names, the units of its times, and control that reaches descendants.
use Rattle.std.specs.Prelude.{ℕ, Bool, true, false, not, List, [], ◌∷◌, ◌++◌, Option, Some, None, is_some}
use Rattle.std.specs.List.{flat_map, list_all}
use Rattle.sim_time.specs.declared.moments.Unit.{Unit as TimeUnit}
use Rattle.sim_time.specs.declared.moments.Unit.TheVariants as unit
use Rattle.model_tree.specs.Vocabulary.{later_word_of}
use Rattle.model_tree.specs.Tree as tree
use Rattle.model_tree.specs.Parts as part
use Rattle.model_tree.specs.Parts.{Part, parts_of, joined}
use Rattle.model_tree.specs.declared.types.Constant.{Constant}
use Rattle.model_tree.specs.declared.types.ConstantForm.{ConstantForm}
use Rattle.model_tree.specs.declared.types.ConstantForm.TheVariants as constant
use Rattle.model_tree.specs.declared.types.Span.{Span}
use Rattle.model_tree.specs.declared.types.Parameter.{Parameter}
use Rattle.model_tree.specs.declared.types.End.{End}
use Rattle.model_tree.specs.declared.statements.Who.{Who}
use Rattle.model_tree.specs.declared.statements.Who.TheVariants as who
use Rattle.model_tree.specs.declared.items.InitiatorRole.{InitiatorRole}
use Rattle.model_tree.specs.declared.items.InitiatorRole.TheVariants as initiator
use Rattle.model_tree.specs.declared.items.TargetRole.{TargetRole}
use Rattle.model_tree.specs.declared.items.TargetRole.TheVariants as target
use Rattle.model_tree.specs.declared.items.Head.{Head}
use Rattle.model_tree.specs.declared.items.Head.TheVariants as head

-- a name, the unit of a time, or the word that a control call reaches descendants by
pub data Leaf : Type 0 where
  named : List ℕ → Leaf
  in_unit : TimeUnit → Leaf
  descending : Leaf

abbrev pub Leaves : Type 0
Leaves = List Leaf

abbrev pub name_if : Option (List ℕ) → Leaves
name_if None = []
name_if (Some x) = named x ∷ []

abbrev pub descending_if : Bool → Leaves
descending_if true = descending ∷ []
descending_if false = []

abbrev pub in_expression : tree.Expression → Leaves
in_expression (tree.number line v) = []
in_expression (tree.time line v u) = in_unit u ∷ []
in_expression (tree.logic line ds) = []
in_expression (tree.truth line b) = []
in_expression (tree.now line) = []
in_expression (tree.myself line) = []
in_expression (tree.constant line c) = []
in_expression (tree.paren line e) = in_expression e
in_expression (tree.convert line c e) = in_expression e
in_expression (tree.to_vector line width e) = in_expression e
in_expression (tree.concat line upper lower) = in_expression upper ++ in_expression lower
in_expression (tree.named line x) = named x ∷ []
in_expression (tree.placed line x at) = named x ∷ []
in_expression (tree.placed_by line x e) = named x ∷ in_expression e
in_expression (tree.member e x) = in_expression e ++ named x ∷ []
in_expression (tree.element e index) = in_expression e ++ in_expression index
in_expression (tree.slice e high low) = in_expression e
in_expression (tree.unary line o e) = in_expression e
in_expression (tree.binary o left right) = in_expression left ++ in_expression right

abbrev pub in_expression_if : Option tree.Expression → Leaves
in_expression_if None = []
in_expression_if (Some e) = in_expression e

abbrev pub in_expressions : List tree.Expression → Leaves
in_expressions es = flat_map in_expression es

abbrev pub in_place : tree.Place → Leaves
in_place tree.first = []
in_place (tree.place_number n) = []
in_place (tree.computed e) = in_expression e

abbrev pub in_channel : tree.Channel → Leaves
in_channel c = named c.name ∷ in_place c.place

abbrev pub in_event : tree.Event → Leaves
in_event e = in_channel e.channel ++ name_if e.member

abbrev pub in_events : List tree.Event → Leaves
in_events es = flat_map in_event es

abbrev pub in_waiting : tree.Waiting → Leaves
in_waiting tree.static = []
in_waiting tree.delta = []
in_waiting (tree.for_ e) = in_expression e
in_waiting (tree.one e t) = in_event e ++ in_expression_if t
in_waiting (tree.any es t) = in_events es ++ in_expression_if t
in_waiting (tree.all es t) = in_events es ++ in_expression_if t

abbrev pub in_notification : tree.Notification → Leaves
in_notification tree.immediate = []
in_notification tree.next_delta = []
in_notification (tree.after e) = in_expression e

abbrev pub in_target : tree.Target → Leaves
in_target t = named t.name ∷ (name_if t.member ++ in_expression_if t.index)

abbrev pub in_operation : tree.Operation → Leaves
in_operation (tree.call x es) = named x ∷ in_expressions es
in_operation (tree.read c) = in_channel c
in_operation (tree.nb_read c x) = in_channel c ++ named x ∷ []
in_operation (tree.nb_write c e) = in_channel c ++ in_expression e
in_operation (tree.trylock c) = in_channel c
in_operation (tree.unlock c) = in_channel c
in_operation (tree.sem_trywait c) = in_channel c
in_operation (tree.nb_transport socket payload phase delay) = named socket ∷ named payload ∷ named phase ∷ named delay ∷ []

abbrev pub in_spawn : tree.Spawn → Leaves
in_spawn x = name_if x.handle ++ (named x.function ∷ (in_expressions x.arguments ++ in_events x.sensitive))

abbrev pub in_who : Who → Leaves
in_who (who.Named line x) = named x ∷ []
in_who (who.Myself line) = []

abbrev pub in_part : Part → Leaves
in_part (part.name r x) = named x ∷ []
in_part (part.next_name r x) = named x ∷ []
in_part (part.reaching_name r x all) = named x ∷ descending_if all
in_part (part.text x) = []
in_part (part.term u e) = in_expression e
in_part (part.term_if u e) = in_expression_if e
in_part (part.next_term u e) = in_expression e
in_part (part.next_term_if u e) = in_expression_if e
in_part (part.channel u c) = in_channel c
in_part (part.waiting t) = in_waiting t
in_part (part.notification t) = in_notification t
in_part (part.instance x) = in_spawn x
in_part (part.process x) = in_who x
in_part (part.reaching_process x all) = in_who x ++ descending_if all

abbrev pub in_action : tree.Action → Leaves
in_action a = joined in_part (λ xs ys. xs ++ ys) [] (parts_of a)

abbrev mutual
  pub in_statement : tree.Statement → Leaves
  in_statement (tree.var line t x e) = named x ∷ in_expression_if e
  in_statement (tree.assign line t e) = in_target t ++ in_expression e
  in_statement (tree.operate line x at o) = name_if x ++ in_operation o
  in_statement (tree.act line a) = in_action a
  in_statement (tree.if_ line e body other) = in_expression e ++ (in_block body ++ in_else other)
  in_statement (tree.while_ line e body) = in_expression e ++ in_block body
  in_statement (tree.guard line body undo) = in_block body ++ in_block undo
  in_statement (tree.try_ line body handlers) = in_block body ++ in_handlers handlers

  pub in_block : tree.Block → Leaves
  in_block tree.over = []
  in_block (tree.then s ss) = in_statement s ++ in_block ss

  pub in_else : tree.Else → Leaves
  in_else tree.no_else = []
  in_else (tree.else_block body) = in_block body

  pub in_handlers : tree.Handlers → Leaves
  in_handlers tree.no_more = []
  in_handlers (tree.handler x body more) = named x ∷ (in_block body ++ in_handlers more)

abbrev pub in_form : ConstantForm → Leaves
in_form (constant.Number n) = []
in_form (constant.Negative n) = []
in_form (constant.Time n u) = in_unit u ∷ []
in_form (constant.Logic digits) = []
in_form (constant.Truth b) = []

abbrev pub in_constant : Option Constant → Leaves
in_constant None = []
in_constant (Some c) = in_form c.form

abbrev pub in_span : Option Span → Leaves
in_span None = []
in_span (Some s) = in_unit s.unit ∷ []

abbrev pub in_initiator : InitiatorRole → Leaves
in_initiator initiator.Pass = []
in_initiator (initiator.Own bw) = name_if bw

abbrev pub in_socket : TargetRole → Leaves
in_socket target.Pass = []
in_socket (target.Own bt fw) = name_if bt ++ name_if fw

abbrev pub in_end : End → Leaves
in_end e = named e.name ∷ name_if e.member

abbrev pub in_parameter : Parameter → Leaves
in_parameter p = named p.name ∷ []

abbrev pub in_item : tree.Item → Leaves
in_item (tree.signal line s) = named s.name ∷ in_constant s.initial
in_item (tree.resolved line x) = named x ∷ []
in_item (tree.clock line c) = named c.name ∷ in_unit c.period.unit ∷ in_unit c.high.unit ∷ in_span c.start
in_item (tree.fifo line t x size) = named x ∷ []
in_item (tree.plain line kind x) = named x ∷ []
in_item (tree.semaphore line x c) = named x ∷ in_form c.form
in_item (tree.memory line x size) = named x ∷ []
in_item (tree.variable line t x c) = named x ∷ in_constant c
in_item (tree.port line i x size) = named x ∷ []
in_item (tree.export line i x) = named x ∷ []
in_item (tree.initiator line x role) = named x ∷ in_initiator role
in_item (tree.target line x role) = named x ∷ in_socket role
in_item (tree.instance line kind x) = named kind ∷ named x ∷ []
in_item (tree.bind line left right) = in_end left ++ in_end right
in_item (tree.function line f) = named f.name ∷ (flat_map in_parameter f.parameters ++ in_block f.body)
in_item (tree.process line p) = named p.name ∷ (in_events p.sensitive ++ in_block p.body)

abbrev pub in_module : tree.Module → Leaves
in_module m = named m.name ∷ flat_map in_item m.items

abbrev pub leaves_of : tree.Model → Leaves
leaves_of m = flat_map in_module m.modules ++ (named m.top.module ∷ named m.top.name ∷ [])

-- the words that language 2 reserves besides
abbrev pub is_reserved_later : List ℕ → Bool
is_reserved_later x = is_some (later_word_of x)

abbrev pub is_femtoseconds : TimeUnit → Bool
is_femtoseconds unit.Fs = true
is_femtoseconds unit.Ps = false
is_femtoseconds unit.Ns = false
is_femtoseconds unit.Us = false
is_femtoseconds unit.Ms = false
is_femtoseconds unit.S = false

-- whether a text with this head may have it
abbrev pub may_have : Head → Leaf → Bool
may_have head.First (named x) = true
may_have head.First (in_unit u) = not (is_femtoseconds u)
may_have head.First descending = false
may_have (head.Second r) (named x) = not (is_reserved_later x)
may_have (head.Second r) (in_unit u) = true
may_have (head.Second r) descending = true

-- a tree keeps to its language
abbrev pub keeps_language : Head → tree.Model → Bool
keeps_language h m = list_all (may_have h) (leaves_of m)
