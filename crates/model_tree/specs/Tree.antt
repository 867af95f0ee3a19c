-- The tree of a text as contracts speak of it: numbers, lists and these types, with nothing of how memory keeps it.
use Rattle.std.specs.Prelude.{ℕ, Bool, List, Option}
use Rattle.logic_values.specs.declared.kinds.Digit.{Digit}
use Rattle.sim_time.specs.declared.moments.Unit.{Unit as TimeUnit}
use Rattle.model_tree.specs.declared.expressions.UnaryOp.{UnaryOp}
use Rattle.model_tree.specs.declared.expressions.BinaryOp.{BinaryOp}
use Rattle.model_tree.specs.declared.expressions.Conversion.{Conversion}
use Rattle.model_tree.specs.declared.expressions.NamedConstant.{NamedConstant}
use Rattle.model_tree.specs.declared.types.SignalType.{SignalType}
use Rattle.model_tree.specs.declared.types.VarType.{VarType}
use Rattle.model_tree.specs.declared.types.Interface.{Interface}
use Rattle.model_tree.specs.declared.types.Constant.{Constant}
use Rattle.model_tree.specs.declared.types.PortSize.{PortSize}
use Rattle.model_tree.specs.declared.types.Parameter.{Parameter}
use Rattle.model_tree.specs.declared.types.End.{End}
use Rattle.model_tree.specs.declared.statements.Who.{Who}
use Rattle.model_tree.specs.declared.statements.Control.{Control}
use Rattle.model_tree.specs.declared.items.SignalItem.{SignalItem}
use Rattle.model_tree.specs.declared.items.ClockItem.{ClockItem}
use Rattle.model_tree.specs.declared.items.InitiatorRole.{InitiatorRole}
use Rattle.model_tree.specs.declared.items.TargetRole.{TargetRole}
use Rattle.model_tree.specs.declared.items.PlainKind.{PlainKind}
use Rattle.model_tree.specs.declared.items.ProcessKind.{ProcessKind}
use Rattle.model_tree.specs.declared.items.Top.{Top}
use Rattle.model_tree.specs.declared.items.Head.{Head}

-- an expression; the number in front is the line of its first token, or else the first part's line serves
pub data Expression : Type 0 where
  number : ℕ → ℕ → Expression
  time : ℕ → ℕ → TimeUnit → Expression
  logic : ℕ → List Digit → Expression
  truth : ℕ → Bool → Expression
  now : ℕ → Expression
  myself : ℕ → Expression
  constant : ℕ → NamedConstant → Expression
  paren : ℕ → Expression → Expression
  convert : ℕ → Conversion → Expression → Expression
  to_vector : ℕ → ℕ → Expression → Expression
  concat : ℕ → Expression → Expression → Expression
  named : ℕ → List ℕ → Expression
  placed : ℕ → List ℕ → ℕ → Expression
  placed_by : ℕ → List ℕ → Expression → Expression
  member : Expression → List ℕ → Expression
  element : Expression → Expression → Expression
  slice : Expression → ℕ → ℕ → Expression
  unary : ℕ → UnaryOp → Expression → Expression
  binary : BinaryOp → Expression → Expression → Expression

-- the place of a port's channel
pub data Place : Type 0 where
  first : Place
  place_number : ℕ → Place
  computed : Expression → Place

-- a channel, or a port's channel at a place
pub record Channel : Type 0 where
  pub line : ℕ
  pub name : List ℕ
  pub place : Place

-- an event: a channel's own, or a member's
pub record Event : Type 0 where
  pub channel : Channel
  pub member : Option (List ℕ)

-- what a wait or a next trigger waits for, and its time-out
pub data Waiting : Type 0 where
  static : Waiting
  delta : Waiting
  for_ : Expression → Waiting
  one : Event → Option Expression → Waiting
  any : List Event → Option Expression → Waiting
  all : List Event → Option Expression → Waiting

-- when a notification comes
pub data Notification : Type 0 where
  immediate : Notification
  next_delta : Notification
  after : Expression → Notification

-- the target of an assignment
pub record Target : Type 0 where
  pub name : List ℕ
  pub member : Option (List ℕ)
  pub index : Option Expression

-- a statement that may give a value to a variable
pub data Operation : Type 0 where
  call : List ℕ → List Expression → Operation
  read : Channel → Operation
  nb_read : Channel → List ℕ → Operation
  nb_write : Channel → Expression → Operation
  trylock : Channel → Operation
  unlock : Channel → Operation
  sem_trywait : Channel → Operation
  nb_transport : List ℕ → List ℕ → List ℕ → List ℕ → Operation

-- a new instance of a function
pub record Spawn : Type 0 where
  pub handle : Option (List ℕ)
  pub method : Bool
  pub function : List ℕ
  pub arguments : List Expression
  pub sensitive : List Event
  pub dont_initialize : Bool

-- a statement that gives no value; of a control call and an exception for another it also says whether they reach the descendants of
-- their target
pub data Action : Type 0 where
  write : Channel → Expression → Action
  print : List ℕ → Option Expression → Action
  notify : List ℕ → Notification → Action
  cancel : List ℕ → Action
  wait : Waiting → Action
  next_trigger : Waiting → Action
  lock : Channel → Action
  sem_wait : Channel → Action
  post : Channel → Action
  make : List ℕ → Expression → Option Expression → Action
  acquire : List ℕ → Action
  release : List ℕ → Action
  carry : List ℕ → List ℕ → Action
  b_transport : List ℕ → List ℕ → List ℕ → Action
  qk_global : Expression → Action
  qk_inc : List ℕ → Expression → Action
  qk_set : List ℕ → Expression → Action
  qk_reset : List ℕ → Action
  qk_sync : List ℕ → Action
  spawn : Spawn → Action
  control : Control → Who → Bool → Action
  throw_it : Who → List ℕ → Bool → Action
  throw : List ℕ → Action
  return_ : Option Expression → Action
  stop : Action

-- statements, blocks and handlers; the number in front of a statement is the line of its first token
mutual
  pub data Statement : Type 0 where
    var : ℕ → VarType → List ℕ → Option Expression → Statement
    assign : ℕ → Target → Expression → Statement
    operate : ℕ → Option (List ℕ) → ℕ → Operation → Statement
    act : ℕ → Action → Statement
    if_ : ℕ → Expression → Block → Else → Statement
    while_ : ℕ → Expression → Block → Statement
    guard : ℕ → Block → Block → Statement
    try_ : ℕ → Block → Handlers → Statement

  pub data Block : Type 0 where
    over : Block
    then : Statement → Block → Block

  pub data Else : Type 0 where
    no_else : Else
    else_block : Block → Else

  pub data Handlers : Type 0 where
    no_more : Handlers
    handler : List ℕ → Block → Handlers → Handlers

-- a function
pub record FunctionItem : Type 0 where
  pub name : List ℕ
  pub parameters : List Parameter
  pub answer : Option VarType
  pub body : Block

-- a process of the design
pub record ProcessItem : Type 0 where
  pub kind : ProcessKind
  pub name : List ℕ
  pub sensitive : List Event
  pub dont_initialize : Bool
  pub body : Block

-- an item of a module; the number in front is the line of its first token
pub data Item : Type 0 where
  signal : ℕ → SignalItem → Item
  resolved : ℕ → List ℕ → Item
  clock : ℕ → ClockItem → Item
  fifo : ℕ → SignalType → List ℕ → Option ℕ → Item
  plain : ℕ → PlainKind → List ℕ → Item
  semaphore : ℕ → List ℕ → Constant → Item
  memory : ℕ → List ℕ → ℕ → Item
  variable : ℕ → VarType → List ℕ → Option Constant → Item
  port : ℕ → Interface → List ℕ → Option PortSize → Item
  export : ℕ → Interface → List ℕ → Item
  initiator : ℕ → List ℕ → InitiatorRole → Item
  target : ℕ → List ℕ → TargetRole → Item
  instance : ℕ → List ℕ → List ℕ → Item
  bind : ℕ → End → End → Item
  function : ℕ → FunctionItem → Item
  process : ℕ → ProcessItem → Item

-- a module
pub record Module : Type 0 where
  pub line : ℕ
  pub name : List ℕ
  pub items : List Item

-- the modules of a text, and the instance at its top
pub record Model : Type 0 where
  pub modules : List Module
  pub top : Top

-- a whole text: what it says of its language, and its modules
pub record Source : Type 0 where
  pub head : Head
  pub model : Model
