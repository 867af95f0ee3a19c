-- A tree without its line numbers: each of them is 0.
use Rattle.std.specs.Prelude.{◌≡◌, map, option_map}
use Rattle.model_print.specs.ModelTree.Tree as tree
use Rattle.model_print.specs.ModelTree.Parts.{Change, changed}
use Rattle.model_print.specs.ModelTree.declared.types.SignalType.{SignalType}
use Rattle.model_print.specs.ModelTree.declared.types.VarType.{VarType}
use Rattle.model_print.specs.ModelTree.declared.types.VarType.TheVariants as variable
use Rattle.model_print.specs.ModelTree.declared.types.Interface.{Interface}
use Rattle.model_print.specs.ModelTree.declared.types.Interface.TheVariants as interface
use Rattle.model_print.specs.ModelTree.declared.types.Constant.{Constant}
use Rattle.model_print.specs.ModelTree.declared.types.Parameter.{Parameter}
use Rattle.model_print.specs.ModelTree.declared.types.End.{End}
use Rattle.model_print.specs.ModelTree.declared.statements.Who.{Who}
use Rattle.model_print.specs.ModelTree.declared.statements.Who.TheVariants as who
use Rattle.model_print.specs.ModelTree.declared.items.SignalItem.{SignalItem}
use Rattle.model_print.specs.ModelTree.declared.items.ResolutionLine.{ResolutionLine}
use Rattle.model_print.specs.ModelTree.declared.items.Head.{Head}
use Rattle.model_print.specs.ModelTree.declared.items.Head.TheVariants as heads
use Rattle.model_print.specs.ModelTree.declared.items.Top.{Top}

abbrev pub expression : tree.Expression → tree.Expression
expression (tree.number line n) = tree.number 0 n
expression (tree.time line n u) = tree.time 0 n u
expression (tree.logic line ds) = tree.logic 0 ds
expression (tree.truth line b) = tree.truth 0 b
expression (tree.now line) = tree.now 0
expression (tree.myself line) = tree.myself 0
expression (tree.constant line c) = tree.constant 0 c
expression (tree.paren line e) = tree.paren 0 (expression e)
expression (tree.convert line c e) = tree.convert 0 c (expression e)
expression (tree.to_vector line width e) = tree.to_vector 0 width (expression e)
expression (tree.concat line upper lower) = tree.concat 0 (expression upper) (expression lower)
expression (tree.named line x) = tree.named 0 x
expression (tree.placed line x at) = tree.placed 0 x at
expression (tree.placed_by line x e) = tree.placed_by 0 x (expression e)
expression (tree.member e x) = tree.member (expression e) x
expression (tree.element e index) = tree.element (expression e) (expression index)
expression (tree.slice e high low) = tree.slice (expression e) high low
expression (tree.unary line o e) = tree.unary 0 o (expression e)
expression (tree.binary o left right) = tree.binary o (expression left) (expression right)

abbrev pub place : tree.Place → tree.Place
place tree.first = tree.first
place (tree.place_number n) = tree.place_number n
place (tree.computed e) = tree.computed (expression e)

abbrev pub channel : tree.Channel → tree.Channel
channel c = record { line = 0; name = c.name; place = place c.place }

abbrev pub event : tree.Event → tree.Event
event e = record { channel = channel e.channel; member = e.member }

abbrev pub waiting : tree.Waiting → tree.Waiting
waiting tree.static = tree.static
waiting tree.delta = tree.delta
waiting (tree.for_ e) = tree.for_ (expression e)
waiting (tree.one e t) = tree.one (event e) (option_map expression t)
waiting (tree.any es t) = tree.any (map event es) (option_map expression t)
waiting (tree.all es t) = tree.all (map event es) (option_map expression t)

abbrev pub notification : tree.Notification → tree.Notification
notification tree.immediate = tree.immediate
notification tree.next_delta = tree.next_delta
notification (tree.after e) = tree.after (expression e)

abbrev pub target : tree.Target → tree.Target
target t = record { name = t.name; member = t.member; index = option_map expression t.index }

abbrev pub operation : tree.Operation → tree.Operation
operation (tree.call x es) = tree.call x (map expression es)
operation (tree.read c) = tree.read (channel c)
operation (tree.nb_read c x) = tree.nb_read (channel c) x
operation (tree.nb_write c e) = tree.nb_write (channel c) (expression e)
operation (tree.trylock c) = tree.trylock (channel c)
operation (tree.unlock c) = tree.unlock (channel c)
operation (tree.sem_trywait c) = tree.sem_trywait (channel c)
operation (tree.nb_transport x p phase t) = tree.nb_transport x p phase t

abbrev pub spawn : tree.Spawn → tree.Spawn
spawn x = record { handle = x.handle; method = x.method; function = x.function; arguments = map expression x.arguments; sensitive = map event x.sensitive; dont_initialize = x.dont_initialize }

abbrev pub process : Who → Who
process (who.Named line x) = who.Named 0 x
process (who.Myself line) = who.Myself 0

abbrev pub change : Change
change = record { expression = expression; option = λ e. option_map expression e; channel_ = channel; waiting_ = waiting; notification_ = notification; instance_ = spawn; process_ = process }

abbrev pub action : tree.Action → tree.Action
action a = changed change a

abbrev pub signal_type : SignalType → SignalType
signal_type t = record { line = 0; form = t.form }

abbrev pub var_type : VarType → VarType
var_type (variable.Plain t) = variable.Plain (signal_type t)
var_type variable.Time = variable.Time
var_type variable.Process = variable.Process
var_type variable.Payload = variable.Payload

abbrev mutual
  pub statement : tree.Statement → tree.Statement
  statement (tree.var line t x e) = tree.var 0 (var_type t) x (option_map expression e)
  statement (tree.assign line t e) = tree.assign 0 (target t) (expression e)
  statement (tree.operate line x at o) = tree.operate 0 x 0 (operation o)
  statement (tree.act line a) = tree.act 0 (action a)
  statement (tree.if_ line e body other) = tree.if_ 0 (expression e) (block body) (otherwise other)
  statement (tree.while_ line e body) = tree.while_ 0 (expression e) (block body)
  statement (tree.guard line body undo) = tree.guard 0 (block body) (block undo)
  statement (tree.try_ line body hs) = tree.try_ 0 (block body) (handlers hs)

  pub block : tree.Block → tree.Block
  block tree.over = tree.over
  block (tree.then x xs) = tree.then (statement x) (block xs)

  pub otherwise : tree.Else → tree.Else
  otherwise tree.no_else = tree.no_else
  otherwise (tree.else_block body) = tree.else_block (block body)

  pub handlers : tree.Handlers → tree.Handlers
  handlers tree.no_more = tree.no_more
  handlers (tree.handler x body more) = tree.handler x (block body) (handlers more)

abbrev pub interface_ : Interface → Interface
interface_ (interface.In t) = interface.In (signal_type t)
interface_ (interface.Out t) = interface.Out (signal_type t)
interface_ (interface.FifoIn t) = interface.FifoIn (signal_type t)
interface_ (interface.FifoOut t) = interface.FifoOut (signal_type t)
interface_ interface.Mutex = interface.Mutex
interface_ interface.Semaphore = interface.Semaphore

abbrev pub constant : Constant → Constant
constant c = record { line = 0; form = c.form }

abbrev pub parameter : Parameter → Parameter
parameter p = record { line = 0; inout = p.inout; var_type = var_type p.var_type; name = p.name }

abbrev pub binding_end : End → End
binding_end e = record { line = 0; name = e.name; member = e.member }

abbrev pub signal : SignalItem → SignalItem
signal x = record { kind = x.kind; many = x.many; value_type = signal_type x.value_type; name = x.name; initial = option_map constant x.initial }

abbrev pub function : tree.FunctionItem → tree.FunctionItem
function f = record { name = f.name; parameters = map parameter f.parameters; answer = option_map var_type f.answer; body = block f.body }

abbrev pub process_item : tree.ProcessItem → tree.ProcessItem
process_item p = record { kind = p.kind; name = p.name; sensitive = map event p.sensitive; dont_initialize = p.dont_initialize; body = block p.body }

abbrev pub item : tree.Item → tree.Item
item (tree.signal line x) = tree.signal 0 (signal x)
item (tree.resolved line x) = tree.resolved 0 x
item (tree.clock line c) = tree.clock 0 c
item (tree.fifo line t x size) = tree.fifo 0 (signal_type t) x size
item (tree.plain line kind x) = tree.plain 0 kind x
item (tree.semaphore line x c) = tree.semaphore 0 x (constant c)
item (tree.memory line x size) = tree.memory 0 x size
item (tree.variable line t x c) = tree.variable 0 (var_type t) x (option_map constant c)
item (tree.port line i x size) = tree.port 0 (interface_ i) x size
item (tree.export line i x) = tree.export 0 (interface_ i) x
item (tree.initiator line x role) = tree.initiator 0 x role
item (tree.target line x role) = tree.target 0 x role
item (tree.instance line kind x) = tree.instance 0 kind x
item (tree.bind line left right) = tree.bind 0 (binding_end left) (binding_end right)
item (tree.function line f) = tree.function 0 (function f)
item (tree.process line p) = tree.process 0 (process_item p)

abbrev pub module_ : tree.Module → tree.Module
module_ m = record { line = 0; name = m.name; items = map item m.items }

abbrev pub top : Top → Top
top t = record { line = 0; «module» = t.module; name = t.name }

abbrev pub model : tree.Model → tree.Model
model m = record { modules = map module_ m.modules; top = top m.top }

abbrev pub resolution : ResolutionLine → ResolutionLine
resolution r = record { line = 0; span = r.span }

abbrev pub head : Head → Head
head heads.First = heads.First
head (heads.Second r) = heads.Second (option_map resolution r)

abbrev pub source : tree.Source → tree.Source
source x = record { head = head x.head; model = model x.model }

-- two trees are the same but for line numbers
abbrev pub SameButLines : tree.Source → tree.Source → Type 0
SameButLines x y = source x ≡ source y
