-- Whether two values are equal: of one kind, and the same in every part.
use Rattle.std.specs.Prelude.{ℕ, Bool, true, false, ◌&&◌, not, nat_eq, Option, Some, None}
use Rattle.logic_values.specs.declared.kinds.Digit.{Digit}
use Rattle.logic_values.specs.declared.kinds.Digit.TheVariants as digit
use Rattle.logic_values.specs.declared.kinds.Value.{Value}
use Rattle.logic_values.specs.declared.kinds.Value.TheVariants as value

-- digits by their numbers
abbrev pub digit_number : Digit → ℕ
digit_number digit.Zero = 0
digit_number digit.One = 1
digit_number digit.Z = 2
digit_number digit.X = 3

abbrev pub is_same_truth : Bool → Bool → Bool
is_same_truth true b = b
is_same_truth false b = not b

abbrev pub is_same_handle : Option ℕ → Option ℕ → Bool
is_same_handle None None = true
is_same_handle (Some a) (Some b) = nat_eq a b
is_same_handle a b = false

abbrev pub is_same : Value → Value → Bool
is_same (value.Bool a) (value.Bool b) = is_same_truth a b
is_same (value.Int v a) (value.Int w b) = nat_eq v w && nat_eq a b
is_same (value.Uint v a) (value.Uint w b) = nat_eq v w && nat_eq a b
is_same (value.Logic a) (value.Logic b) = nat_eq (digit_number a) (digit_number b)
is_same (value.Vector a) (value.Vector b) = nat_eq a.width b.width && (nat_eq a.ones b.ones && nat_eq a.unknown b.unknown)
is_same (value.Moment a) (value.Moment b) = nat_eq a b
is_same (value.Handle a) (value.Handle b) = is_same_handle a b
is_same (value.Pay a) (value.Pay b) = is_same_handle a b
is_same a b = false
