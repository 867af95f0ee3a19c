-- A tree with its times written otherwise: each time as f says, and all else as it is.
use Rattle.std.specs.Prelude.{ℕ, map, Option, Some, None}
use Rattle.model_tree.specs.SimTime.declared.moments.Unit.{Unit as TimeUnit}
use Rattle.model_tree.specs.Tree as tree
use Rattle.model_tree.specs.Parts.{Change, changed}
use Rattle.model_tree.specs.declared.types.Constant.{Constant}
use Rattle.model_tree.specs.declared.types.ConstantForm.{ConstantForm}
use Rattle.model_tree.specs.declared.types.ConstantForm.TheVariants as constant
use Rattle.model_tree.specs.declared.types.Span.{Span}
use Rattle.model_tree.specs.declared.items.SignalItem.{SignalItem}
use Rattle.model_tree.specs.declared.items.ClockItem.{ClockItem}

-- a number and its unit
abbrev pub span : ℕ → TimeUnit → Span
span n unit = record { count = n; unit = unit }

abbrev pub option : {A : Type 0} → (A → A) → Option A → Option A
option g None = None
option g (Some x) = Some (g x)

module _ (f : Span → Span) where
  abbrev pub expression : tree.Expression → tree.Expression
  expression (tree.number line n) = tree.number line n
  expression (tree.time line n unit) = tree.time line (f (span n unit)).count (f (span n unit)).unit
  expression (tree.logic line digits) = tree.logic line digits
  expression (tree.truth line b) = tree.truth line b
  expression (tree.now line) = tree.now line
  expression (tree.myself line) = tree.myself line
  expression (tree.constant line word) = tree.constant line word
  expression (tree.paren line e) = tree.paren line (expression e)
  expression (tree.convert line conversion e) = tree.convert line conversion (expression e)
  expression (tree.to_vector line width e) = tree.to_vector line width (expression e)
  expression (tree.concat line upper lower) = tree.concat line (expression upper) (expression lower)
  expression (tree.named line name) = tree.named line name
  expression (tree.placed line name at) = tree.placed line name at
  expression (tree.placed_by line name e) = tree.placed_by line name (expression e)
  expression (tree.member e name) = tree.member (expression e) name
  expression (tree.element e index) = tree.element (expression e) (expression index)
  expression (tree.slice e high low) = tree.slice (expression e) high low
  expression (tree.unary line op e) = tree.unary line op (expression e)
  expression (tree.binary op left right) = tree.binary op (expression left) (expression right)

  abbrev pub place : tree.Place → tree.Place
  place tree.first = tree.first
  place (tree.place_number n) = tree.place_number n
  place (tree.computed e) = tree.computed (expression e)

  abbrev pub channel : tree.Channel → tree.Channel
  channel c = record c { place = place c.place }

  abbrev pub event : tree.Event → tree.Event
  event e = record e { channel = channel e.channel }

  abbrev pub waiting : tree.Waiting → tree.Waiting
  waiting tree.static = tree.static
  waiting tree.delta = tree.delta
  waiting (tree.for_ e) = tree.for_ (expression e)
  waiting (tree.one e t) = tree.one (event e) (option expression t)
  waiting (tree.any es t) = tree.any (map event es) (option expression t)
  waiting (tree.all es t) = tree.all (map event es) (option expression t)

  abbrev pub notification : tree.Notification → tree.Notification
  notification tree.immediate = tree.immediate
  notification tree.next_delta = tree.next_delta
  notification (tree.after e) = tree.after (expression e)

  abbrev pub target : tree.Target → tree.Target
  target t = record t { index = option expression t.index }

  abbrev pub operation : tree.Operation → tree.Operation
  operation (tree.call name arguments) = tree.call name (map expression arguments)
  operation (tree.read c) = tree.read (channel c)
  operation (tree.nb_read c name) = tree.nb_read (channel c) name
  operation (tree.nb_write c e) = tree.nb_write (channel c) (expression e)
  operation (tree.trylock c) = tree.trylock (channel c)
  operation (tree.unlock c) = tree.unlock (channel c)
  operation (tree.sem_trywait c) = tree.sem_trywait (channel c)
  operation (tree.nb_transport socket payload phase delay) = tree.nb_transport socket payload phase delay

  abbrev pub spawn : tree.Spawn → tree.Spawn
  spawn s = record s { arguments = map expression s.arguments; sensitive = map event s.sensitive }

  abbrev pub change : Change
  change = record { expression = expression; option = λ e. option expression e; channel_ = channel; waiting_ = waiting; notification_ = notification; instance_ = spawn; process_ = λ w. w }

  abbrev pub action : tree.Action → tree.Action
  action a = changed change a

  abbrev mutual
    pub statement : tree.Statement → tree.Statement
    statement (tree.var line t name e) = tree.var line t name (option expression e)
    statement (tree.assign line t e) = tree.assign line (target t) (expression e)
    statement (tree.operate line name at o) = tree.operate line name at (operation o)
    statement (tree.act line a) = tree.act line (action a)
    statement (tree.if_ line e body other) = tree.if_ line (expression e) (block body) (else_ other)
    statement (tree.while_ line e body) = tree.while_ line (expression e) (block body)
    statement (tree.guard line body undo) = tree.guard line (block body) (block undo)
    statement (tree.try_ line body handlers) = tree.try_ line (block body) (handlers_ handlers)

    pub block : tree.Block → tree.Block
    block tree.over = tree.over
    block (tree.then s ss) = tree.then (statement s) (block ss)

    pub else_ : tree.Else → tree.Else
    else_ tree.no_else = tree.no_else
    else_ (tree.else_block body) = tree.else_block (block body)

    pub handlers_ : tree.Handlers → tree.Handlers
    handlers_ tree.no_more = tree.no_more
    handlers_ (tree.handler name body more) = tree.handler name (block body) (handlers_ more)

  abbrev pub form : ConstantForm → ConstantForm
  form (constant.Number n) = constant.Number n
  form (constant.Negative n) = constant.Negative n
  form (constant.Time n unit) = constant.Time (f (span n unit)).count (f (span n unit)).unit
  form (constant.Logic digits) = constant.Logic digits
  form (constant.Truth b) = constant.Truth b

  abbrev pub constant_ : Constant → Constant
  constant_ c = record c { form = form c.form }

  abbrev pub signal : SignalItem → SignalItem
  signal s = record s { initial = option constant_ s.initial }

  abbrev pub clock : ClockItem → ClockItem
  clock c = record c { period = f c.period; high = f c.high; start = option f c.start }

  abbrev pub function : tree.FunctionItem → tree.FunctionItem
  function x = record x { body = block x.body }

  abbrev pub process : tree.ProcessItem → tree.ProcessItem
  process x = record x { sensitive = map event x.sensitive; body = block x.body }

  abbrev pub item : tree.Item → tree.Item
  item (tree.signal line s) = tree.signal line (signal s)
  item (tree.resolved line name) = tree.resolved line name
  item (tree.clock line c) = tree.clock line (clock c)
  item (tree.fifo line t name size) = tree.fifo line t name size
  item (tree.plain line kind name) = tree.plain line kind name
  item (tree.semaphore line name c) = tree.semaphore line name (constant_ c)
  item (tree.memory line name size) = tree.memory line name size
  item (tree.variable line t name c) = tree.variable line t name (option constant_ c)
  item (tree.port line i name size) = tree.port line i name size
  item (tree.export line i name) = tree.export line i name
  item (tree.initiator line name role) = tree.initiator line name role
  item (tree.target line name role) = tree.target line name role
  item (tree.instance line kind name) = tree.instance line kind name
  item (tree.bind line left right) = tree.bind line left right
  item (tree.function line x) = tree.function line (function x)
  item (tree.process line x) = tree.process line (process x)

  abbrev pub module_ : tree.Module → tree.Module
  module_ m = record m { items = map item m.items }

  abbrev pub model : tree.Model → tree.Model
  model m = record m { modules = map module_ m.modules }
