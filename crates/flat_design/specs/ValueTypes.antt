-- Types of values, the values that they begin with, and the types that expressions have.
use Rattle.std.specs.Prelude.{ℕ, false, nat_lt, if◌then◌else◌, replicate, None}
use Rattle.model_tree.specs.LogicValues.declared.kinds.Digit.TheVariants as digit
use Rattle.model_tree.specs.LogicValues.declared.kinds.Value.{Value}
use Rattle.model_tree.specs.LogicValues.declared.kinds.Value.TheVariants as value
use Rattle.model_tree.specs.LogicValues.declared.planes.Lv.{Lv}
use Rattle.model_tree.specs.LogicValues.Planes.{lv_of}
use Rattle.flat_design.specs.declared.value_types.ValueType.{ValueType}
use Rattle.flat_design.specs.declared.value_types.ValueType.TheVariants as type

-- the vector of so many digits, 64 at most, that are all X
abbrev pub unknown_digits : ℕ → Lv
unknown_digits width = lv_of (replicate (if nat_lt 64 width then 64 else width) digit.X)

-- the value of a variable or a signal without an initial value
abbrev pub default_value : ValueType → Value
default_value type.Bool = value.Bool false
default_value (type.Int width) = value.Int width 0
default_value (type.Uint width) = value.Uint width 0
default_value type.Logic = value.Logic digit.X
default_value (type.Vector width) = value.Vector (unknown_digits width)
default_value type.Time = value.Moment 0
default_value type.Process = value.Handle None
default_value type.Payload = value.Pay None

-- the type of a value
abbrev pub type_of_value : Value → ValueType
type_of_value (value.Bool b) = type.Bool
type_of_value (value.Int width bits) = type.Int width
type_of_value (value.Uint width bits) = type.Uint width
type_of_value (value.Logic d) = type.Logic
type_of_value (value.Vector v) = type.Vector v.width
type_of_value (value.Moment t) = type.Time
type_of_value (value.Handle h) = type.Process
type_of_value (value.Pay p) = type.Payload

-- the type that an expression has which reads such a value: an integer has 64 bits there
abbrev pub in_expressions : ValueType → ValueType
in_expressions type.Bool = type.Bool
in_expressions (type.Int width) = type.Int 64
in_expressions (type.Uint width) = type.Uint 64
in_expressions type.Logic = type.Logic
in_expressions (type.Vector width) = type.Vector width
in_expressions type.Time = type.Time
in_expressions type.Process = type.Process
in_expressions type.Payload = type.Payload
