-- The code as contracts speak of it: numbered blocks of numbered statements, with nothing of how memory keeps them.
use Rattle.std.specs.Prelude.{ℕ, Bool, List, Option, map, option_map, slice_get, unwrap_or, []}
use Rattle.model_tree.specs.LogicValues.declared.kinds.Value.{Value}
use Rattle.model_tree.specs.declared.expressions.UnaryOp.{UnaryOp}
use Rattle.model_tree.specs.declared.expressions.BinaryOp.{BinaryOp}
use Rattle.model_tree.specs.declared.items.ProcessKind.{ProcessKind}
use Rattle.model_tree.specs.declared.statements.Control.{Control}
use Rattle.flat_design.specs.declared.value_types.ValueType.{ValueType}
use Rattle.flat_design.specs.declared.names.NameUse.{NameUse}
use Rattle.flat_design.specs.declared.names.Member.{Member}
use Rattle.flat_design.specs.declared.names.PayloadField.{PayloadField}
use Rattle.flat_design.specs.declared.names.PayloadBytes.{PayloadBytes}
use Rattle.flat_design.specs.declared.names.EventMember.{EventMember}
use Rattle.flat_design.specs.declared.terms.Expr.{Expr, Placed', PlacedMember', Element', PayloadByte', Digit', Digits', Unary', Binary', Convert', Concat'}
use Rattle.flat_design.specs.declared.terms.Expr.TheVariants.{Literal, Now, Myself, Name, Member as MemberOf}
use Rattle.flat_design.specs.declared.code.Controlled.{Controlled}
use Rattle.flat_design.specs.declared.code.ChannelUse.{ChannelUse}
use Rattle.flat_design.specs.declared.code.EventUse.{EventUse}
use Rattle.flat_design.specs.declared.code.StaticUse.{StaticUse}
use Rattle.flat_design.specs.declared.code.Await.{Await}
use Rattle.flat_design.specs.declared.code.Await.TheVariants as await
use Rattle.flat_design.specs.declared.code.Argument.{Argument}
use Rattle.flat_design.specs.declared.code.Argument.TheVariants as argument
use Rattle.flat_design.specs.declared.code.Store.{Store}
use Rattle.flat_design.specs.declared.code.Destination.{Destination}
use Rattle.flat_design.specs.declared.code.Destination.TheVariants as destination
use Rattle.flat_design.specs.declared.code.SpawnForm.{SpawnForm}
use Rattle.flat_design.specs.declared.code.Handler.{Handler}
use Rattle.flat_design.specs.declared.code.Statement.{Statement as Kept}
use Rattle.flat_design.specs.declared.code.Statement.TheVariants as kept
use Rattle.flat_design.specs.declared.code.CodeBody.{CodeBody}
use Rattle.flat_design.specs.declared.code.Code.{Code}

-- an expression
pub data Term : Type 0 where
  literal : Value → Term
  now : Term
  myself : Term
  name : NameUse → Term
  placed : ℕ → Term → Term
  member : NameUse → Member → Term
  placed_member : ℕ → Term → Member → Term
  element : ℕ → Term → Term
  payload_byte : NameUse → PayloadBytes → Term → Term
  digit : ValueType → Term → Term → Term
  digits : ValueType → Term → ℕ → ℕ → Term
  unary : UnaryOp → ValueType → Term → Term
  binary : BinaryOp → ValueType → Term → Term → Term
  convert : ValueType → ValueType → Term → Term
  concat : Term → Term → Term

abbrev pub term_of : Expr → Term
term_of (Literal v) = literal v
term_of Now = now
term_of Myself = myself
term_of (Name n) = name n
term_of (Placed' n p e) = placed n (term_of e)
term_of (MemberOf n m) = member n m
term_of (PlacedMember' n p e m) = placed_member n (term_of e) m
term_of (Element' n p e) = element n (term_of e)
term_of (PayloadByte' n b p e) = payload_byte n b (term_of e)
term_of (Digit' t p e q i) = digit t (term_of e) (term_of i)
term_of (Digits' t p e high low) = digits t (term_of e) high low
term_of (Unary' op t p e) = unary op t (term_of e)
term_of (Binary' op t p l q r) = binary op t (term_of l) (term_of r)
term_of (Convert' to from p e) = convert to from (term_of e)
term_of (Concat' p u q l) = concat (term_of u) (term_of l)

-- a channel, or a port's channel at a place
pub record ChannelTerm : Type 0 where
  pub channel_name : ℕ
  pub place : Option Term

abbrev pub channel_term : ChannelUse → ChannelTerm
channel_term c = record { channel_name = c.name; place = option_map term_of c.place }

-- an event
pub record EventTerm : Type 0 where
  pub event_name : NameUse
  pub place : Option Term
  pub event : EventMember

abbrev pub event_term : EventUse → EventTerm
event_term e = record { event_name = e.name; place = option_map term_of e.place; event = e.event }

abbrev pub event_terms : List EventUse → List EventTerm
event_terms es = map event_term es

-- what a wait or a next trigger waits for
pub data AwaitTerm : Type 0 where
  static : AwaitTerm
  delta : AwaitTerm
  for_ : Term → AwaitTerm
  any : List EventTerm → Option Term → AwaitTerm
  all : List EventTerm → Option Term → AwaitTerm

abbrev pub await_term : Await → AwaitTerm
await_term await.Static = static
await_term await.Delta = delta
await_term (await.For e) = for_ (term_of e)
await_term (await.Any es t) = any (event_terms es.items) (option_map term_of t)
await_term (await.All es t) = all (event_terms es.items) (option_map term_of t)

-- an argument of a call
pub data ArgumentTerm : Type 0 where
  by_value : Term → ArgumentTerm
  inout : NameUse → ArgumentTerm

abbrev pub argument_term : Argument → ArgumentTerm
argument_term (argument.Value e) = by_value (term_of e)
argument_term (argument.Inout n) = inout n

-- what gets an assigned value
pub data DestinationTerm : Type 0 where
  to_name : Store → DestinationTerm
  to_field : NameUse → PayloadField → DestinationTerm
  to_element : ℕ → Term → DestinationTerm
  to_payload_byte : NameUse → PayloadBytes → Term → DestinationTerm

abbrev pub destination_term : Destination → DestinationTerm
destination_term (destination.Name s) = to_name s
destination_term (destination.Field n f) = to_field n f
destination_term (destination.Element n e) = to_element n (term_of e)
destination_term (destination.PayloadByte n b e) = to_payload_byte n b (term_of e)

-- a new instance of a function
pub record SpawnTerm : Type 0 where
  pub handle : Option NameUse
  pub kind : ProcessKind
  pub function : ℕ
  pub arguments : List Term
  pub sensitive : List StaticUse
  pub dont_initialize : Bool

abbrev pub spawn_term : SpawnForm → SpawnTerm
spawn_term s = record { handle = s.handle; kind = s.kind; function = s.function; arguments = map term_of s.arguments.items; sensitive = s.sensitive; dont_initialize = s.dont_initialize }

-- a statement; blocks are numbers; a control call and an exception for another say whether they reach the descendants of their target
pub data Statement : Type 0 where
  var : ℕ → ValueType → Option Term → Statement
  assign : DestinationTerm → Term → Statement
  call : Option Store → ℕ → List ArgumentTerm → Statement
  read : Option Store → ChannelTerm → Statement
  nb_read : Option Store → ChannelTerm → Store → Statement
  nb_write : Option Store → ChannelTerm → ValueType → Term → Statement
  trylock : Option Store → ChannelTerm → Statement
  unlock : Option Store → ChannelTerm → Statement
  sem_trywait : Option Store → ChannelTerm → Statement
  nb_transport : Option Store → ℕ → NameUse → NameUse → NameUse → Statement
  write : ChannelTerm → ValueType → Term → Statement
  print : List ℕ → Option Term → Statement
  notify : ℕ → Statement
  notify_delta : ℕ → Statement
  notify_after : ℕ → Term → Statement
  cancel : ℕ → Statement
  wait : AwaitTerm → Statement
  next_trigger : AwaitTerm → Statement
  lock : ChannelTerm → Statement
  sem_wait : ChannelTerm → Statement
  post : ChannelTerm → Statement
  make : NameUse → Term → Option Term → Statement
  acquire : NameUse → Statement
  release : NameUse → Statement
  carry : NameUse → ℕ → Statement
  b_transport : ℕ → NameUse → NameUse → Statement
  qk_global : Term → Statement
  qk_inc : ℕ → Term → Statement
  qk_set : ℕ → Term → Statement
  qk_reset : ℕ → Statement
  spawn : SpawnTerm → Statement
  control : Control → Controlled → Bool → Statement
  throw_it : Controlled → ℕ → Bool → Statement
  throw : ℕ → Statement
  return_ : Option Term → Statement
  stop : Statement
  if_ : Term → ℕ → Option ℕ → Statement
  while_ : Term → ℕ → Statement
  guard : ℕ → ℕ → Statement
  try_ : ℕ → List Handler → Statement

abbrev pub statement_of : Kept → Statement
statement_of (kept.Var n t e) = var n t (option_map term_of e)
statement_of (kept.Assign d e) = assign (destination_term d) (term_of e)
statement_of (kept.Call x f arguments) = call x f (map argument_term arguments.items)
statement_of (kept.Read x c) = read x (channel_term c)
statement_of (kept.NbRead x c y) = nb_read x (channel_term c) y
statement_of (kept.NbWrite x c t e) = nb_write x (channel_term c) t (term_of e)
statement_of (kept.Trylock x c) = trylock x (channel_term c)
statement_of (kept.Unlock x c) = unlock x (channel_term c)
statement_of (kept.SemTrywait x c) = sem_trywait x (channel_term c)
statement_of (kept.NbTransport x s p phase t) = nb_transport x s p phase t
statement_of (kept.Write c t e) = write (channel_term c) t (term_of e)
statement_of (kept.Print text e) = print text (option_map term_of e)
statement_of (kept.Notify n) = notify n
statement_of (kept.NotifyDelta n) = notify_delta n
statement_of (kept.NotifyAfter n e) = notify_after n (term_of e)
statement_of (kept.Cancel n) = cancel n
statement_of (kept.Wait w) = wait (await_term w)
statement_of (kept.NextTrigger w) = next_trigger (await_term w)
statement_of (kept.Lock c) = lock (channel_term c)
statement_of (kept.SemWait c) = sem_wait (channel_term c)
statement_of (kept.Post c) = post (channel_term c)
statement_of (kept.Make n e m) = make n (term_of e) (option_map term_of m)
statement_of (kept.Acquire n) = acquire n
statement_of (kept.Release n) = release n
statement_of (kept.Carry p m) = carry p m
statement_of (kept.BTransport s p t) = b_transport s p t
statement_of (kept.QkGlobal e) = qk_global (term_of e)
statement_of (kept.QkInc n e) = qk_inc n (term_of e)
statement_of (kept.QkSet n e) = qk_set n (term_of e)
statement_of (kept.QkReset n) = qk_reset n
statement_of (kept.Spawn s) = spawn (spawn_term s)
statement_of (kept.Control c who descendants) = control c who descendants
statement_of (kept.ThrowIt who n descendants) = throw_it who n descendants
statement_of (kept.Throw n) = throw n
statement_of (kept.Return e) = return_ (option_map term_of e)
statement_of kept.Stop = stop
statement_of (kept.If e b other) = if_ (term_of e) b other
statement_of (kept.While e b) = while_ (term_of e) b
statement_of (kept.Guard b u) = guard b u
statement_of (kept.Try b handlers) = try_ b handlers

-- the code: a body, a block or a statement that there is not has nothing
pub record Arena : Type 0 where
  pub bodies : List CodeBody
  pub blocks : List (List ℕ)
  pub statements : List Statement

abbrev pub arena_of : Code → Arena
arena_of c = record { bodies = c.bodies; blocks = c.blocks; statements = map statement_of c.statements }

abbrev pub block_at : Arena → ℕ → List ℕ
block_at a b = unwrap_or (slice_get a.blocks b) []

abbrev pub statement_at : Arena → ℕ → Option Statement
statement_at a s = slice_get a.statements s

abbrev pub body_at : Arena → ℕ → Option CodeBody
body_at a f = slice_get a.bodies f
