-- What contracts see of each type of the tree: the value of specs/Tree.antt.
use Rattle.std.specs.Prelude.{ℕ, List, [], ◌∷◌, Option, Some, None, map, option_map}
use Rattle.logic_values.specs.Digits.{digits}
use Rattle.model_tree.specs.Tree as tree
use Rattle.model_tree.specs.declared.expressions.Expression.{Expression, Paren', Convert', ToVector', Concat', PlacedBy', Member', Element', Slice', Unary', Binary'}
use Rattle.model_tree.specs.declared.expressions.Expression.TheVariants.{Number, Time, Logic, Truth, Now, Myself, Constant, Named, Placed}
use Rattle.model_tree.specs.declared.statements.Place.{Place}
use Rattle.model_tree.specs.declared.statements.Place.TheVariants as place
use Rattle.model_tree.specs.declared.statements.Channel.{Channel}
use Rattle.model_tree.specs.declared.statements.Event.{Event}
use Rattle.model_tree.specs.declared.statements.Waiting.{Waiting}
use Rattle.model_tree.specs.declared.statements.Waiting.TheVariants as waiting
use Rattle.model_tree.specs.declared.statements.Notification.{Notification}
use Rattle.model_tree.specs.declared.statements.Notification.TheVariants as notification
use Rattle.model_tree.specs.declared.statements.Target.{Target}
use Rattle.model_tree.specs.declared.statements.Operation.{Operation}
use Rattle.model_tree.specs.declared.statements.Operation.TheVariants as operation
use Rattle.model_tree.specs.declared.statements.Spawn.{Spawn}
use Rattle.model_tree.specs.declared.statements.Action.{Action}
use Rattle.model_tree.specs.declared.statements.Action.TheVariants as action
use Rattle.model_tree.specs.declared.statements.Statement.{Statement, fold-Statement}
use Rattle.model_tree.specs.declared.statements.Statement.TheOpen.{Statement-F}
use Rattle.model_tree.specs.declared.items.FunctionItem.{FunctionItem}
use Rattle.model_tree.specs.declared.items.ProcessItem.{ProcessItem}
use Rattle.model_tree.specs.declared.items.Item.{Item}
use Rattle.model_tree.specs.declared.items.Item.TheVariants as item
use Rattle.model_tree.specs.declared.items.Module.{Module}
use Rattle.std.specs.Global.{Vec}

abbrev pub expression_of : Expression → tree.Expression
expression_of (Number line n) = tree.number line n
expression_of (Time line n unit) = tree.time line n unit
expression_of (Logic line v) = tree.logic line (digits v)
expression_of (Truth line b) = tree.truth line b
expression_of (Now line) = tree.now line
expression_of (Myself line) = tree.myself line
expression_of (Constant line word) = tree.constant line word
expression_of (Paren' line p e) = tree.paren line (expression_of e)
expression_of (Convert' line conversion p e) = tree.convert line conversion (expression_of e)
expression_of (ToVector' line width p e) = tree.to_vector line width (expression_of e)
expression_of (Concat' line p upper q lower) = tree.concat line (expression_of upper) (expression_of lower)
expression_of (Named line name) = tree.named line name
expression_of (Placed line name at) = tree.placed line name at
expression_of (PlacedBy' line name p e) = tree.placed_by line name (expression_of e)
expression_of (Member' p e name) = tree.member (expression_of e) name
expression_of (Element' p e q index) = tree.element (expression_of e) (expression_of index)
expression_of (Slice' p e high low) = tree.slice (expression_of e) high low
expression_of (Unary' line op p e) = tree.unary line op (expression_of e)
expression_of (Binary' op p left q right) = tree.binary op (expression_of left) (expression_of right)

abbrev pub place_of : Place → tree.Place
place_of place.First = tree.first
place_of (place.Number n) = tree.place_number n
place_of (place.Computed e) = tree.computed (expression_of e)

abbrev pub channel_of : Channel → tree.Channel
channel_of c = record { line = c.line; name = c.name; place = place_of c.place }

abbrev pub event_of : Event → tree.Event
event_of e = record { channel = channel_of e.channel; member = e.member }

abbrev pub expressions_of : List Expression → List tree.Expression
expressions_of es = map expression_of es

abbrev pub events_of : List Event → List tree.Event
events_of es = map event_of es

abbrev pub waiting_of : Waiting → tree.Waiting
waiting_of waiting.Static = tree.static
waiting_of waiting.Delta = tree.delta
waiting_of (waiting.For e) = tree.for_ (expression_of e)
waiting_of (waiting.One e t) = tree.one (event_of e) (option_map expression_of t)
waiting_of (waiting.Any es t) = tree.any (events_of es.items) (option_map expression_of t)
waiting_of (waiting.All es t) = tree.all (events_of es.items) (option_map expression_of t)

abbrev pub notification_of : Notification → tree.Notification
notification_of notification.Immediate = tree.immediate
notification_of notification.Delta = tree.next_delta
notification_of (notification.After e) = tree.after (expression_of e)

abbrev pub target_of : Target → tree.Target
target_of t = record { name = t.name; member = t.member; index = option_map expression_of t.index }

abbrev pub operation_of : Operation → tree.Operation
operation_of (operation.Call name arguments) = tree.call name (expressions_of arguments.items)
operation_of (operation.Read c) = tree.read (channel_of c)
operation_of (operation.NbRead c name) = tree.nb_read (channel_of c) name
operation_of (operation.NbWrite c e) = tree.nb_write (channel_of c) (expression_of e)
operation_of (operation.Trylock c) = tree.trylock (channel_of c)
operation_of (operation.Unlock c) = tree.unlock (channel_of c)
operation_of (operation.SemTrywait c) = tree.sem_trywait (channel_of c)
operation_of (operation.NbTransport s p ph d) = tree.nb_transport s p ph d

abbrev pub spawn_of : Spawn → tree.Spawn
spawn_of s = record { handle = s.handle; method = s.method; function = s.function; arguments = expressions_of s.arguments.items; sensitive = events_of s.sensitive.items; dont_initialize = s.dont_initialize }

abbrev pub action_of : Action → tree.Action
action_of (action.Write c e) = tree.write (channel_of c) (expression_of e)
action_of (action.Print text e) = tree.print text (option_map expression_of e)
action_of (action.Notify name n) = tree.notify name (notification_of n)
action_of (action.Cancel name) = tree.cancel name
action_of (action.Wait w) = tree.wait (waiting_of w)
action_of (action.NextTrigger w) = tree.next_trigger (waiting_of w)
action_of (action.Lock c) = tree.lock (channel_of c)
action_of (action.SemWait c) = tree.sem_wait (channel_of c)
action_of (action.Post c) = tree.post (channel_of c)
action_of (action.Make name n m) = tree.make name (expression_of n) (option_map expression_of m)
action_of (action.Acquire name) = tree.acquire name
action_of (action.Release name) = tree.release name
action_of (action.Carry p m) = tree.carry p m
action_of (action.BTransport s p d) = tree.b_transport s p d
action_of (action.QkGlobal e) = tree.qk_global (expression_of e)
action_of (action.QkInc name e) = tree.qk_inc name (expression_of e)
action_of (action.QkSet name e) = tree.qk_set name (expression_of e)
action_of (action.QkReset name) = tree.qk_reset name
action_of (action.QkSync name) = tree.qk_sync name
action_of (action.Spawn s) = tree.spawn (spawn_of s)
action_of (action.Control c w all) = tree.control c w all
action_of (action.ThrowIt w name all) = tree.throw_it w name all
action_of (action.Throw name) = tree.throw name
action_of (action.Return e) = tree.return_ (option_map expression_of e)
action_of action.Stop = tree.stop

-- statements that are viewed already, as a block
abbrev pub block_of : List tree.Statement → tree.Block
block_of [] = tree.over
block_of (s ∷ ss) = tree.then s (block_of ss)

abbrev pub else_of : Option (Vec tree.Statement) → tree.Else
else_of None = tree.no_else
else_of (Some body) = tree.else_block (block_of body.items)

abbrev pub handlers_of : List (List ℕ × Vec tree.Statement) → tree.Handlers
handlers_of [] = tree.no_more
handlers_of (h ∷ hs) = tree.handler h.0 (block_of h.1.items) (handlers_of hs)

abbrev pub statement_step : Statement-F tree.Statement → tree.Statement
statement_step (Statement-F.Var line t name e) = tree.var line t name (option_map expression_of e)
statement_step (Statement-F.Assign line t e) = tree.assign line (target_of t) (expression_of e)
statement_step (Statement-F.Operate line name at o) = tree.operate line name at (operation_of o)
statement_step (Statement-F.Act line a) = tree.act line (action_of a)
statement_step (Statement-F.If line e body other) = tree.if_ line (expression_of e) (block_of body.items) (else_of other)
statement_step (Statement-F.While line e body) = tree.while_ line (expression_of e) (block_of body.items)
statement_step (Statement-F.Guard line body undo) = tree.guard line (block_of body.items) (block_of undo.items)
statement_step (Statement-F.Try line body handlers) = tree.try_ line (block_of body.items) (handlers_of handlers.items)

abbrev pub statement_of : Statement → tree.Statement
statement_of = fold-Statement tree.Statement statement_step

abbrev pub body_of : List Statement → tree.Block
body_of ss = block_of (map statement_of ss)

abbrev pub function_of : FunctionItem → tree.FunctionItem
function_of f = record { name = f.name; parameters = f.parameters.items; answer = f.answer; body = body_of f.body.items }

abbrev pub process_of : ProcessItem → tree.ProcessItem
process_of p = record { kind = p.kind; name = p.name; sensitive = events_of p.sensitive.items; dont_initialize = p.dont_initialize; body = body_of p.body.items }

abbrev pub item_of : Item → tree.Item
item_of (item.Signal line s) = tree.signal line s
item_of (item.Resolved line name) = tree.resolved line name
item_of (item.Clock line c) = tree.clock line c
item_of (item.Fifo line t name size) = tree.fifo line t name size
item_of (item.Plain line kind name) = tree.plain line kind name
item_of (item.Semaphore line name c) = tree.semaphore line name c
item_of (item.Memory line name size) = tree.memory line name size
item_of (item.Variable line t name c) = tree.variable line t name c
item_of (item.Port line i name size) = tree.port line i name size
item_of (item.Export line i name) = tree.export line i name
item_of (item.Initiator line name role) = tree.initiator line name role
item_of (item.Target line name role) = tree.target line name role
item_of (item.Instance line kind name) = tree.instance line kind name
item_of (item.Bind line left right) = tree.bind line left right
item_of (item.Function line f) = tree.function line (function_of f)
item_of (item.Process line p) = tree.process line (process_of p)

abbrev pub module_of : Module → tree.Module
module_of m = record { line = m.line; name = m.name; items = map item_of m.items.items }

abbrev pub modules_of : List Module → List tree.Module
modules_of ms = map module_of ms
