-- The printed tokens of the leaves of a tree. A type is one token, with no blank inside.
use Rattle.std.specs.Prelude.{ℕ, Bool, List, [], ◌∷◌, ◌++◌, Option}
use Rattle.model_tree.specs.LogicValues.Digits.{digits}
use Rattle.model_tree.specs.SimTime.declared.moments.Unit.{Unit as TimeUnit}
use Rattle.model_tree.specs.declared.vocabulary.Word.TheVariants as w
use Rattle.model_tree.specs.declared.vocabulary.Symbol.TheVariants as s
use Rattle.model_tree.specs.declared.types.TypeForm.{TypeForm}
use Rattle.model_tree.specs.declared.types.TypeForm.TheVariants as form
use Rattle.model_tree.specs.declared.types.VarType.{VarType}
use Rattle.model_tree.specs.declared.types.VarType.TheVariants as variable
use Rattle.model_tree.specs.declared.types.ConstantForm.{ConstantForm}
use Rattle.model_tree.specs.declared.types.ConstantForm.TheVariants as constant
use Rattle.model_tree.specs.declared.types.Constant.{Constant}
use Rattle.model_tree.specs.declared.types.Span.{Span}
use Rattle.model_tree.specs.declared.types.Interface.{Interface}
use Rattle.model_tree.specs.declared.types.Interface.TheVariants as leads
use Rattle.model_tree.specs.declared.types.BoundRule.{BoundRule}
use Rattle.model_tree.specs.declared.types.BoundRule.TheVariants as rule
use Rattle.model_tree.specs.declared.types.PortSize.{PortSize}
use Rattle.model_tree.specs.declared.types.Parameter.{Parameter}
use Rattle.model_tree.specs.declared.types.End.{End}
use Rattle.model_tree.specs.declared.statements.Who.{Who}
use Rattle.model_tree.specs.declared.statements.Who.TheVariants as called
use Rattle.model_tree.specs.Spelling.{truth_word, unit_name}
use Rattle.model_print.specs.Layout.{Piece}
use Rattle.model_print.specs.Pieces.{word, name, number, logic, type_word, wide, operator, prefix, joint, opening, closing, flag, maybe}

-- a type of signals
abbrev pub type_form : TypeForm → Piece
type_form form.Bool = type_word w.Bool
type_form form.Logic = type_word w.Logic
type_form (form.Int width) = wide w.Int width
type_form (form.Uint width) = wide w.Uint width
type_form (form.Vector width) = wide w.Lv width

-- a type of variables
abbrev pub var_type : VarType → Piece
var_type (variable.Plain t) = type_form t.form
var_type variable.Time = type_word w.Time
var_type variable.Process = type_word w.Process
var_type variable.Payload = type_word w.Payload

-- a number and its unit
abbrev pub time : ℕ → TimeUnit → List Piece
time n u = number n ∷ name (unit_name u) ∷ []

abbrev pub span : Span → List Piece
span t = time t.count t.unit

abbrev pub truth : Bool → Piece
truth b = word (truth_word b)

-- a constant of an item
abbrev pub constant_form : ConstantForm → List Piece
constant_form (constant.Number n) = number n ∷ []
constant_form (constant.Negative n) = prefix s.Minus ∷ number n ∷ []
constant_form (constant.Time n u) = time n u
constant_form (constant.Logic v) = logic (digits v) ∷ []
constant_form (constant.Truth b) = truth b ∷ []

-- a first value where it is written
abbrev pub first_value : Option Constant → List Piece
first_value c = maybe (λ x. operator s.Equal ∷ constant_form x.form) c

-- the process of a control call
abbrev pub who : Who → Piece
who (called.Named line x) = name x
who (called.Myself line) = word w.SelfProcess

-- a member behind a dot, where one is written
abbrev pub member : Option (List ℕ) → List Piece
member x = maybe (λ y. joint s.Dot ∷ name y ∷ []) x

-- what a port or an export leads to
abbrev pub interface : Interface → List Piece
interface (leads.In t) = word w.In ∷ type_form t.form ∷ []
interface (leads.Out t) = word w.Out ∷ type_form t.form ∷ []
interface (leads.FifoIn t) = word w.FifoIn ∷ type_form t.form ∷ []
interface (leads.FifoOut t) = word w.FifoOut ∷ type_form t.form ∷ []
interface leads.Mutex = word w.MutexPort ∷ []
interface leads.Semaphore = word w.SemaphorePort ∷ []

abbrev pub bound_rule : BoundRule → List Piece
bound_rule rule.One = []
bound_rule rule.Zero = word w.Zero ∷ []
bound_rule rule.All = word w.AllBound ∷ []

-- the size of a port
abbrev pub port_size : PortSize → List Piece
port_size p = opening s.LeftBracket ∷ number p.count ∷ bound_rule p.rule ++ closing s.RightBracket ∷ []

abbrev pub parameter : Parameter → List Piece
parameter p = flag w.Inout p.inout ++ var_type p.var_type ∷ name p.name ∷ []

-- one end of a binding
abbrev pub binding_end : End → List Piece
binding_end e = name e.name ∷ member e.member
