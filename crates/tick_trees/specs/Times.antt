-- The times that a tree writes, in text order.
use Rattle.std.specs.Prelude.{ℕ, List, [], ◌∷◌, ◌++◌, Option, Some, None}
use Rattle.std.specs.List.{flat_map}
use Rattle.model_tree.specs.Tree as tree
use Rattle.model_tree.specs.Parts as part
use Rattle.model_tree.specs.Parts.{Part, parts_of, joined}
use Rattle.tick_trees.specs.Retimed.{span}
use Rattle.model_tree.specs.declared.types.Constant.{Constant}
use Rattle.model_tree.specs.declared.types.ConstantForm.{ConstantForm}
use Rattle.model_tree.specs.declared.types.ConstantForm.TheVariants as constant
use Rattle.model_tree.specs.declared.types.Span.{Span}

-- a construct with its line and its times: a literal has one, a clock two or three
pub record Timed : Type 0 where
  pub line : ℕ
  pub spans : List Span

abbrev pub timed : ℕ → List Span → Timed
timed line spans = record { line = line; spans = spans }

abbrev pub in_option : {A : Type 0} → (A → List Timed) → Option A → List Timed
in_option g None = []
in_option g (Some x) = g x

abbrev pub in_expression : tree.Expression → List Timed
in_expression (tree.number line n) = []
in_expression (tree.time line n unit) = timed line (span n unit ∷ []) ∷ []
in_expression (tree.logic line digits) = []
in_expression (tree.truth line b) = []
in_expression (tree.now line) = []
in_expression (tree.myself line) = []
in_expression (tree.constant line word) = []
in_expression (tree.paren line e) = in_expression e
in_expression (tree.convert line conversion e) = in_expression e
in_expression (tree.to_vector line width e) = in_expression e
in_expression (tree.concat line upper lower) = in_expression upper ++ in_expression lower
in_expression (tree.named line name) = []
in_expression (tree.placed line name at) = []
in_expression (tree.placed_by line name e) = in_expression e
in_expression (tree.member e name) = in_expression e
in_expression (tree.element e index) = in_expression e ++ in_expression index
in_expression (tree.slice e high low) = in_expression e
in_expression (tree.unary line op e) = in_expression e
in_expression (tree.binary op left right) = in_expression left ++ in_expression right

abbrev pub in_place : tree.Place → List Timed
in_place tree.first = []
in_place (tree.place_number n) = []
in_place (tree.computed e) = in_expression e

abbrev pub in_channel : tree.Channel → List Timed
in_channel c = in_place c.place

abbrev pub in_event : tree.Event → List Timed
in_event e = in_channel e.channel

abbrev pub in_events : List tree.Event → List Timed
in_events es = flat_map in_event es

abbrev pub in_waiting : tree.Waiting → List Timed
in_waiting tree.static = []
in_waiting tree.delta = []
in_waiting (tree.for_ e) = in_expression e
in_waiting (tree.one e t) = in_event e ++ in_option in_expression t
in_waiting (tree.any es t) = in_events es ++ in_option in_expression t
in_waiting (tree.all es t) = in_events es ++ in_option in_expression t

abbrev pub in_notification : tree.Notification → List Timed
in_notification tree.immediate = []
in_notification tree.next_delta = []
in_notification (tree.after e) = in_expression e

abbrev pub in_operation : tree.Operation → List Timed
in_operation (tree.call name arguments) = flat_map in_expression arguments
in_operation (tree.read c) = in_channel c
in_operation (tree.nb_read c name) = in_channel c
in_operation (tree.nb_write c e) = in_channel c ++ in_expression e
in_operation (tree.trylock c) = in_channel c
in_operation (tree.unlock c) = in_channel c
in_operation (tree.sem_trywait c) = in_channel c
in_operation (tree.nb_transport socket payload phase delay) = []

abbrev pub in_part : Part → List Timed
in_part (part.name r x) = []
in_part (part.next_name r x) = []
in_part (part.reaching_name r x all) = []
in_part (part.text x) = []
in_part (part.term u e) = in_expression e
in_part (part.term_if u e) = in_option in_expression e
in_part (part.next_term u e) = in_expression e
in_part (part.next_term_if u e) = in_option in_expression e
in_part (part.channel u c) = in_channel c
in_part (part.waiting w) = in_waiting w
in_part (part.notification n) = in_notification n
in_part (part.instance s) = flat_map in_expression s.arguments ++ in_events s.sensitive
in_part (part.process who) = []
in_part (part.reaching_process who all) = []

abbrev pub in_action : tree.Action → List Timed
in_action a = joined in_part (λ xs ys. xs ++ ys) [] (parts_of a)

abbrev mutual
  pub in_statement : tree.Statement → List Timed
  in_statement (tree.var line t name e) = in_option in_expression e
  in_statement (tree.assign line t e) = in_option in_expression t.index ++ in_expression e
  in_statement (tree.operate line name at o) = in_operation o
  in_statement (tree.act line a) = in_action a
  in_statement (tree.if_ line e body other) = in_expression e ++ (in_block body ++ in_else other)
  in_statement (tree.while_ line e body) = in_expression e ++ in_block body
  in_statement (tree.guard line body undo) = in_block body ++ in_block undo
  in_statement (tree.try_ line body handlers) = in_block body ++ in_handlers handlers

  pub in_block : tree.Block → List Timed
  in_block tree.over = []
  in_block (tree.then s ss) = in_statement s ++ in_block ss

  pub in_else : tree.Else → List Timed
  in_else tree.no_else = []
  in_else (tree.else_block body) = in_block body

  pub in_handlers : tree.Handlers → List Timed
  in_handlers tree.no_more = []
  in_handlers (tree.handler name body more) = in_block body ++ in_handlers more

abbrev pub in_form : ℕ → ConstantForm → List Timed
in_form line (constant.Number n) = []
in_form line (constant.Negative n) = []
in_form line (constant.Time n unit) = timed line (span n unit ∷ []) ∷ []
in_form line (constant.Logic digits) = []
in_form line (constant.Truth b) = []

abbrev pub in_constant : Constant → List Timed
in_constant c = in_form c.line c.form

abbrev pub span_if : Option Span → List Span
span_if None = []
span_if (Some s) = s ∷ []

abbrev pub in_item : tree.Item → List Timed
in_item (tree.signal line s) = in_option in_constant s.initial
in_item (tree.resolved line name) = []
in_item (tree.clock line c) = timed line (c.period ∷ c.high ∷ span_if c.start) ∷ []
in_item (tree.fifo line t name size) = []
in_item (tree.plain line kind name) = []
in_item (tree.semaphore line name c) = in_constant c
in_item (tree.memory line name size) = []
in_item (tree.variable line t name c) = in_option in_constant c
in_item (tree.port line i name size) = []
in_item (tree.export line i name) = []
in_item (tree.initiator line name role) = []
in_item (tree.target line name role) = []
in_item (tree.instance line kind name) = []
in_item (tree.bind line left right) = []
in_item (tree.function line f) = in_block f.body
in_item (tree.process line p) = in_events p.sensitive ++ in_block p.body

abbrev pub in_module : tree.Module → List Timed
in_module m = flat_map in_item m.items

abbrev pub times_of : tree.Model → List Timed
times_of m = flat_map in_module m.modules
