-- Which values an edge knows.
use Rattle.std.specs.Prelude.{Bool, true, false, not}
use Rattle.logic_values.specs.declared.kinds.Digit.TheVariants as digit
use Rattle.logic_values.specs.declared.kinds.Value.{Value}
use Rattle.logic_values.specs.declared.kinds.Value.TheVariants as value

-- the value is a 1, or a 0, as the edges of truth values and digits know it
abbrev pub is_one : Value → Bool
is_one (value.Bool b) = b
is_one (value.Logic digit.One) = true
is_one v = false

abbrev pub is_zero : Value → Bool
is_zero (value.Bool b) = not b
is_zero (value.Logic digit.Zero) = true
is_zero v = false
