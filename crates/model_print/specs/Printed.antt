-- The printed tokens of each form of a tree, in order.
use Rattle.std.specs.Prelude.{ℕ, List, [], ◌∷◌, ◌++◌, Option}
use Rattle.model_tree.specs.Tree as tree
use Rattle.model_tree.specs.Parts as made
use Rattle.model_tree.specs.Parts.{Part, word_of_action, parts_of, joined}
use Rattle.model_tree.specs.declared.vocabulary.Word.{Word}
use Rattle.model_tree.specs.declared.vocabulary.Word.TheVariants as w
use Rattle.model_tree.specs.declared.vocabulary.Symbol.TheVariants as s
use Rattle.model_tree.specs.declared.types.VarType.{VarType}
use Rattle.model_tree.specs.declared.types.Parameter.{Parameter}
use Rattle.model_tree.specs.declared.types.Span.{Span}
use Rattle.model_tree.specs.declared.items.InitiatorRole.{InitiatorRole}
use Rattle.model_tree.specs.declared.items.InitiatorRole.TheVariants as initiates
use Rattle.model_tree.specs.declared.items.TargetRole.{TargetRole}
use Rattle.model_tree.specs.declared.items.TargetRole.TheVariants as receives
use Rattle.model_tree.specs.declared.items.SignalItem.{SignalItem}
use Rattle.model_tree.specs.declared.items.ClockItem.{ClockItem}
use Rattle.model_tree.specs.declared.items.ResolutionLine.{ResolutionLine}
use Rattle.model_tree.specs.declared.items.Head.{Head}
use Rattle.model_tree.specs.declared.items.Head.TheVariants as head
use Rattle.model_tree.specs.declared.items.Top.{Top}
use Rattle.model_tree.specs.Spelling.{unary_symbol, binary_symbol, conversion_word, constant_word, signal_word, plain_word, process_word}
use Rattle.model_print.specs.Layout.{Piece, layout}
use Rattle.model_print.specs.Pieces.{word, name, number, logic, quoted, type_word, wide, operator, prefix, joint, opening, closing, comma, semicolon, flag, maybe, each, separated, braced, bracketed}
use Rattle.model_print.specs.Leaves.{type_form, var_type, time, span, truth, constant_form, first_value, who, member, interface, port_size, parameter, binding_end}

abbrev pub expression : tree.Expression → List Piece
expression (tree.number line n) = number n ∷ []
expression (tree.time line n u) = time n u
expression (tree.logic line ds) = logic ds ∷ []
expression (tree.truth line b) = truth b ∷ []
expression (tree.now line) = word w.Now ∷ []
expression (tree.myself line) = word w.SelfProcess ∷ []
expression (tree.constant line c) = word (constant_word c) ∷ []
expression (tree.paren line e) = bracketed (expression e)
expression (tree.convert line c e) = type_word (conversion_word c) ∷ bracketed (expression e)
expression (tree.to_vector line width e) = wide w.Lv width ∷ bracketed (expression e)
expression (tree.concat line upper lower) = type_word w.Concat ∷ bracketed (expression upper ++ comma ∷ expression lower)
expression (tree.named line x) = name x ∷ []
expression (tree.placed line x at) = name x ∷ joint s.At ∷ number at ∷ []
expression (tree.placed_by line x e) = name x ∷ joint s.At ∷ bracketed (expression e)
expression (tree.member e x) = expression e ++ joint s.Dot ∷ name x ∷ []
expression (tree.element e index) = expression e ++ opening s.LeftBracket ∷ expression index ++ closing s.RightBracket ∷ []
expression (tree.slice e high low) = expression e ++ opening s.LeftBracket ∷ number high ∷ operator s.Colon ∷ number low ∷ closing s.RightBracket ∷ []
expression (tree.unary line o e) = prefix (unary_symbol o) ∷ expression e
expression (tree.binary o left right) = expression left ++ operator (binary_symbol o) ∷ expression right

-- each expression behind a comma
abbrev pub more_expressions : List tree.Expression → List Piece
more_expressions es = each (λ e. comma ∷ expression e) es

-- expressions between round brackets
abbrev pub arguments : List tree.Expression → List Piece
arguments es = bracketed (separated expression es)

abbrev pub place : tree.Place → List Piece
place tree.first = []
place (tree.place_number n) = joint s.At ∷ number n ∷ []
place (tree.computed e) = joint s.At ∷ bracketed (expression e)

abbrev pub channel : tree.Channel → List Piece
channel c = name c.name ∷ place c.place

abbrev pub event : tree.Event → List Piece
event e = channel e.channel ++ member e.member

-- each event behind a comma
abbrev pub more_events : List tree.Event → List Piece
more_events es = each (λ e. comma ∷ event e) es

-- a time-out where one is written
abbrev pub time_out : Option tree.Expression → List Piece
time_out t = maybe (λ e. word w.For ∷ expression e) t

abbrev pub waiting : tree.Waiting → List Piece
waiting tree.static = []
waiting tree.delta = word w.Delta ∷ []
waiting (tree.for_ e) = word w.For ∷ expression e
waiting (tree.one e t) = event e ++ time_out t
waiting (tree.any es t) = word w.Any ∷ separated event es ++ time_out t
waiting (tree.all es t) = word w.All ∷ separated event es ++ time_out t

abbrev pub notification : tree.Notification → List Piece
notification tree.immediate = []
notification tree.next_delta = word w.Delta ∷ []
notification (tree.after e) = word w.After ∷ expression e

-- an index between square brackets, where one is written
abbrev pub index : Option tree.Expression → List Piece
index i = maybe (λ e. opening s.LeftBracket ∷ expression e ++ closing s.RightBracket ∷ []) i

abbrev pub target : tree.Target → List Piece
target t = name t.name ∷ member t.member ++ index t.index

-- the static sensitivity, none where no event is written
abbrev pub sensitive : List tree.Event → List Piece
sensitive [] = []
sensitive (e ∷ es) = word w.Sensitive ∷ separated event (e ∷ es)

-- names with commas between them
abbrev pub three_names : List ℕ → List ℕ → List ℕ → List Piece
three_names a b c = name a ∷ comma ∷ name b ∷ comma ∷ name c ∷ []

-- a word and a channel
abbrev pub with_channel : Word → tree.Channel → List Piece
with_channel x c = word x ∷ channel c

abbrev pub operation : tree.Operation → List Piece
operation (tree.call x es) = word w.Call ∷ name x ∷ arguments es
operation (tree.read c) = word w.Read ∷ channel c
operation (tree.nb_read c x) = word w.NbRead ∷ channel c ++ comma ∷ name x ∷ []
operation (tree.nb_write c e) = word w.NbWrite ∷ channel c ++ comma ∷ expression e
operation (tree.trylock c) = word w.Trylock ∷ channel c
operation (tree.unlock c) = word w.Unlock ∷ channel c
operation (tree.sem_trywait c) = word w.SemTrywait ∷ channel c
operation (tree.nb_transport x p phase t) = word w.NbTransport ∷ name x ∷ comma ∷ three_names p phase t

-- a variable that gets a value, where one is written
abbrev pub stored : Option (List ℕ) → List Piece
stored x = maybe (λ y. name y ∷ operator s.Equal ∷ []) x

abbrev pub spawned : tree.Spawn → List Piece
spawned x = stored x.handle ++ flag w.Method x.method ++ name x.function ∷ arguments x.arguments ++ sensitive x.sensitive ++ flag w.DontInitialize x.dont_initialize

abbrev pub spawn : tree.Spawn → List Piece
spawn x = word w.Spawn ∷ spawned x

-- a word and a name
abbrev pub with_name : Word → List ℕ → List Piece
with_name x y = word x ∷ name y ∷ []

-- an expression behind a comma, where one is written
abbrev pub one_more : Option tree.Expression → List Piece
one_more e = maybe (λ x. comma ∷ expression x) e

-- a word, a name and an expression
abbrev pub with_time : Word → List ℕ → tree.Expression → List Piece
with_time x y e = word x ∷ name y ∷ expression e

abbrev pub part : Part → List Piece
part (made.name r x) = name x ∷ []
part (made.next_name r x) = comma ∷ name x ∷ []
part (made.reaching_name r x all) = name x ∷ flag w.Descendants all
part (made.text x) = quoted x ∷ []
part (made.term u e) = expression e
part (made.term_if u e) = maybe expression e
part (made.next_term u e) = comma ∷ expression e
part (made.next_term_if u e) = one_more e
part (made.channel u c) = channel c
part (made.waiting t) = waiting t
part (made.notification t) = notification t
part (made.instance x) = spawned x
part (made.process p) = who p ∷ []
part (made.reaching_process p all) = who p ∷ flag w.Descendants all

abbrev pub action : tree.Action → List Piece
action a = word (word_of_action a) ∷ joined part (λ xs ys. xs ++ ys) [] (parts_of a)

-- an expression as a first value, where one is written
abbrev pub initial : Option tree.Expression → List Piece
initial e = maybe (λ x. operator s.Equal ∷ expression x) e

abbrev pub var : VarType → List ℕ → Option tree.Expression → List Piece
var t x e = word w.Var ∷ var_type t ∷ name x ∷ initial e ++ semicolon ∷ []

abbrev pub assign : tree.Target → tree.Expression → List Piece
assign t e = target t ++ operator s.Equal ∷ expression e ++ semicolon ∷ []

abbrev pub operate : Option (List ℕ) → tree.Operation → List Piece
operate x o = stored x ++ operation o ++ semicolon ∷ []

abbrev pub act : tree.Action → List Piece
act a = action a ++ semicolon ∷ []

abbrev mutual
  pub statement : tree.Statement → List Piece
  statement (tree.var line t x e) = var t x e
  statement (tree.assign line t e) = assign t e
  statement (tree.operate line x at o) = operate x o
  statement (tree.act line a) = act a
  statement (tree.if_ line e body other) = word w.If ∷ expression e ++ braced (statements body) ++ else_ other
  statement (tree.while_ line e body) = word w.While ∷ expression e ++ braced (statements body)
  statement (tree.guard line body undo) = word w.Guard ∷ braced (statements body) ++ word w.Unwind ∷ braced (statements undo)
  statement (tree.try_ line body hs) = word w.Try ∷ braced (statements body) ++ handlers hs

  pub statements : tree.Block → List Piece
  statements tree.over = []
  statements (tree.then x xs) = statement x ++ statements xs

  pub else_ : tree.Else → List Piece
  else_ tree.no_else = []
  else_ (tree.else_block body) = word w.Else ∷ braced (statements body)

  pub handlers : tree.Handlers → List Piece
  handlers tree.no_more = []
  handlers (tree.handler x body more) = word w.Catch ∷ name x ∷ braced (statements body) ++ handlers more

abbrev pub signal : SignalItem → List Piece
signal x = word (signal_word x.kind) ∷ flag w.Many x.many ++ type_form x.value_type.form ∷ name x.name ∷ first_value x.initial

-- when a clock starts, where that is written
abbrev pub start : Option Span → List Piece
start s = maybe (λ t. word w.Start ∷ span t) s

abbrev pub clock : ClockItem → List Piece
clock c = word w.Clock ∷ name c.name ∷ word w.Period ∷ span c.period ++ word w.High ∷ span c.high ++ start c.start

-- a word and a name, where one is written
abbrev pub own_handler : Word → Option (List ℕ) → List Piece
own_handler x y = maybe (with_name x) y

abbrev pub initiator_role : InitiatorRole → List Piece
initiator_role initiates.Pass = word w.Pass ∷ []
initiator_role (initiates.Own bw) = own_handler w.Bw bw

abbrev pub target_role : TargetRole → List Piece
target_role receives.Pass = word w.Pass ∷ []
target_role (receives.Own bt fw) = own_handler w.Bt bt ++ own_handler w.Fw fw

-- the type of a function's answer, where it has one
abbrev pub answer : Option VarType → List Piece
answer t = maybe (λ x. operator s.Arrow ∷ var_type x ∷ []) t

-- each parameter behind a comma
abbrev pub more_parameters : List Parameter → List Piece
more_parameters ps = each (λ p. comma ∷ parameter p) ps

abbrev pub function : tree.FunctionItem → List Piece
function f = word w.Func ∷ name f.name ∷ bracketed (separated parameter f.parameters) ++ answer f.answer ++ braced (statements f.body)

abbrev pub process : tree.ProcessItem → List Piece
process p = word (process_word p.kind) ∷ name p.name ∷ sensitive p.sensitive ++ flag w.DontInitialize p.dont_initialize ++ braced (statements p.body)

-- a number behind a word, where one is written
abbrev pub fifo_size : Option ℕ → List Piece
fifo_size n = maybe (λ x. word w.Size ∷ number x ∷ []) n

abbrev pub item : tree.Item → List Piece
item (tree.signal line x) = signal x ++ semicolon ∷ []
item (tree.resolved line x) = word w.Resolved ∷ name x ∷ semicolon ∷ []
item (tree.clock line c) = clock c ++ semicolon ∷ []
item (tree.fifo line t x size) = word w.Fifo ∷ type_form t.form ∷ name x ∷ fifo_size size ++ semicolon ∷ []
item (tree.plain line kind x) = word (plain_word kind) ∷ name x ∷ semicolon ∷ []
item (tree.semaphore line x c) = word w.Semaphore ∷ name x ∷ constant_form c.form ++ semicolon ∷ []
item (tree.memory line x size) = word w.Memory ∷ name x ∷ opening s.LeftBracket ∷ number size ∷ closing s.RightBracket ∷ semicolon ∷ []
item (tree.variable line t x c) = word w.Var ∷ var_type t ∷ name x ∷ first_value c ++ semicolon ∷ []
item (tree.port line i x size) = interface i ++ name x ∷ maybe port_size size ++ semicolon ∷ []
item (tree.export line i x) = word w.Export ∷ interface i ++ name x ∷ semicolon ∷ []
item (tree.initiator line x role) = word w.Initiator ∷ name x ∷ initiator_role role ++ semicolon ∷ []
item (tree.target line x role) = word w.Target ∷ name x ∷ target_role role ++ semicolon ∷ []
item (tree.instance line kind x) = word w.Inst ∷ name kind ∷ name x ∷ semicolon ∷ []
item (tree.bind line left right) = word w.Bind ∷ binding_end left ++ word w.To ∷ binding_end right ++ semicolon ∷ []
item (tree.function line f) = function f
item (tree.process line p) = process p

abbrev pub module_ : tree.Module → List Piece
module_ m = word w.Module ∷ name m.name ∷ braced (each item m.items)

abbrev pub top : Top → List Piece
top t = word w.Top ∷ name t.module ∷ name t.name ∷ semicolon ∷ []

-- the modules and the instance at the top
abbrev pub model : tree.Model → List Piece
model m = each module_ m.modules ++ top m.top

abbrev pub resolution : ResolutionLine → List Piece
resolution r = word w.Resolution ∷ span r.span ++ semicolon ∷ []

-- what a text says of its language
abbrev pub first_lines : Head → List Piece
first_lines head.First = []
first_lines (head.Second r) = word w.Language ∷ number 2 ∷ semicolon ∷ maybe resolution r

-- the tokens of a whole text
abbrev pub printed : tree.Source → List Piece
printed x = first_lines x.head ++ model x.model

-- the bytes of a whole text
abbrev pub printed_text : tree.Source → List ℕ
printed_text x = layout (printed x)
