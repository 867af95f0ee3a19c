-- The values, sizes and times that items are declared with.
use Rattle.std.specs.Prelude.{ℕ, ◌*◌, ◌-◌, ◌%◌, ◌^◌, List, [], ◌∷◌, unwrap_or, Option, Some, None}
use Rattle.code_rules.specs.SimTime.Times.{picoseconds_in}
use Rattle.code_rules.specs.SimTime.declared.moments.Time.{Time}
use Rattle.code_rules.specs.LogicValues.Digits.{digits}
use Rattle.code_rules.specs.LogicValues.Integers.{cut_of}
use Rattle.code_rules.specs.LogicValues.declared.kinds.Sign.TheVariants as sign
use Rattle.code_rules.specs.LogicValues.declared.kinds.Digit.{Digit}
use Rattle.code_rules.specs.LogicValues.declared.kinds.Digit.TheVariants as digit
use Rattle.code_rules.specs.LogicValues.declared.kinds.Value.{Value}
use Rattle.code_rules.specs.LogicValues.declared.kinds.Value.TheVariants as value
use Rattle.code_rules.specs.ModelTree.declared.types.Constant.{Constant}
use Rattle.code_rules.specs.ModelTree.declared.types.ConstantForm.{ConstantForm}
use Rattle.code_rules.specs.ModelTree.declared.types.ConstantForm.TheVariants as constant
use Rattle.code_rules.specs.ModelTree.declared.types.Span.{Span}
use Rattle.code_rules.specs.FlatDesign.ValueTypes.{default_value}
use Rattle.code_rules.specs.FlatDesign.declared.value_types.ValueType.{ValueType}
use Rattle.code_rules.specs.FlatDesign.declared.value_types.ValueType.TheVariants as type

-- In a model that breaks no rule each type is one, and each constant fits its item; of others something is said only so that
-- there is an answer.

abbrev pub known_type : Option ValueType → ValueType
known_type t = unwrap_or t type.Bool

abbrev pub time : ℕ → Time
time picoseconds = record { 0 = picoseconds }

abbrev pub span_time : Span → Time
span_time t = time (t.count * picoseconds_in t.unit)

abbrev pub start_time : Option Span → Time
start_time None = time 0
start_time (Some t) = span_time t

-- a number modulo 2^64
abbrev pub whole : ConstantForm → ℕ
whole (constant.Number n) = n
whole (constant.Negative n) = (2 ^ 64 - n % 2 ^ 64) % 2 ^ 64
whole (constant.Time n unit) = 0
whole (constant.Logic v) = 0
whole (constant.Truth b) = 0

-- the digit of a literal of one
abbrev pub first_digit : List Digit → Digit
first_digit [] = digit.X
first_digit (d ∷ ds) = d

-- a constant as a value of a type: an integer is cut to its width and extended by its sign
abbrev pub truth_of : ConstantForm → Value
truth_of (constant.Number n) = default_value type.Bool
truth_of (constant.Negative n) = default_value type.Bool
truth_of (constant.Time n unit) = default_value type.Bool
truth_of (constant.Logic v) = default_value type.Bool
truth_of (constant.Truth b) = value.Bool b

abbrev pub logic_of : ConstantForm → Value
logic_of (constant.Number n) = default_value type.Logic
logic_of (constant.Negative n) = default_value type.Logic
logic_of (constant.Time n unit) = default_value type.Logic
logic_of (constant.Logic v) = value.Logic (first_digit (digits v))
logic_of (constant.Truth b) = default_value type.Logic

abbrev pub vector_of : ℕ → ConstantForm → Value
vector_of width (constant.Number n) = default_value (type.Vector width)
vector_of width (constant.Negative n) = default_value (type.Vector width)
vector_of width (constant.Time n unit) = default_value (type.Vector width)
vector_of width (constant.Logic v) = value.Vector v
vector_of width (constant.Truth b) = default_value (type.Vector width)

abbrev pub moment_of : ConstantForm → Value
moment_of (constant.Number n) = default_value type.Time
moment_of (constant.Negative n) = default_value type.Time
moment_of (constant.Time n unit) = value.Moment (n * picoseconds_in unit)
moment_of (constant.Logic v) = default_value type.Time
moment_of (constant.Truth b) = default_value type.Time

abbrev pub constant_value : ConstantForm → ValueType → Value
constant_value c type.Bool = truth_of c
constant_value c (type.Int width) = value.Int width (cut_of sign.Signed width (whole c))
constant_value c (type.Uint width) = value.Uint width (cut_of sign.Unsigned width (whole c))
constant_value c type.Logic = logic_of c
constant_value c (type.Vector width) = vector_of width c
constant_value c type.Time = moment_of c
constant_value c type.Process = default_value type.Process
constant_value c type.Payload = default_value type.Payload

-- the first value of a signal or a variable
abbrev pub first_value : ValueType → Option Constant → Value
first_value t None = default_value t
first_value t (Some c) = constant_value c.form t
