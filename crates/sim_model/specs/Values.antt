-- What operators make of values. Where an operand has another type than the operation says, it counts as 0, false, no
-- digits or time 0: accepted code never meets that.
use Rattle.std.specs.Prelude.{ℕ, ◌+◌, ◌-◌, ◌*◌, ◌/◌, ◌%◌, ◌^◌, ◌==◌, Bool, true, false, not, ◌&&◌, ◌||◌, nat_lt, List, [], ◌∷◌, ◌++◌, map, drop, take, slice_get, Option, Some, None, Result, Ok, Err, if◌then◌else◌, bit_and, bit_or, bit_xor}
use Rattle.signal_channel.specs.LogicValues.declared.kinds.Digit.{Digit}
use Rattle.signal_channel.specs.LogicValues.declared.kinds.Digit.TheVariants as digit
use Rattle.signal_channel.specs.LogicValues.declared.kinds.Sign.{Sign}
use Rattle.signal_channel.specs.LogicValues.declared.kinds.Sign.TheVariants as sign
use Rattle.signal_channel.specs.LogicValues.declared.kinds.Value.{Value}
use Rattle.signal_channel.specs.LogicValues.declared.kinds.Value.TheVariants as value
use Rattle.signal_channel.specs.LogicValues.Digits.{digits}
use Rattle.signal_channel.specs.LogicValues.Planes.{lv_of}
use Rattle.signal_channel.specs.LogicValues.Integers.{sum_of, difference_of, product_of, quotient_of, remainder_of, shifted_up, shifted_down, is_less, cut_of}
use Rattle.signal_channel.specs.LogicValues.LogicTables.{and_of, or_of, xor_of, not_of}
use Rattle.signal_channel.specs.LogicValues.Vectors.{digit_by_digit, binary_digits, value_of, resized}
use Rattle.signal_channel.specs.LogicValues.SameValue.{is_same}
use Rattle.flat_design.specs.ModelTree.declared.expressions.UnaryOp.{UnaryOp}
use Rattle.flat_design.specs.ModelTree.declared.expressions.UnaryOp.TheVariants as unary_op
use Rattle.flat_design.specs.ModelTree.declared.expressions.BinaryOp.{BinaryOp}
use Rattle.flat_design.specs.ModelTree.declared.expressions.BinaryOp.TheVariants as op
use Rattle.flat_design.specs.declared.value_types.ValueType.{ValueType}
use Rattle.flat_design.specs.declared.value_types.ValueType.TheVariants as type
use Rattle.flat_design.specs.declared.faults.RunFault.{RunFault}
use Rattle.flat_design.specs.declared.faults.RunFault.TheVariants as fault

-- on from a value, where there is no fault
abbrev pub on_ok : {A B : Type 0} → Result A RunFault → (A → Result B RunFault) → Result B RunFault
on_ok (Ok x) f = f x
on_ok (Err e) f = Err e

-- a value as a truth value, as the 64 bits of a number, as digits from place 0 on, as a time

abbrev pub truth : Value → Bool
truth (value.Bool b) = b
truth (value.Int width bits) = false
truth (value.Uint width bits) = false
truth (value.Logic d) = false
truth (value.Vector v) = false
truth (value.Moment t) = false
truth (value.Handle h) = false
truth (value.Pay p) = false

abbrev pub bits : Value → ℕ
bits (value.Bool b) = 0
bits (value.Int width n) = n
bits (value.Uint width n) = n
bits (value.Logic d) = 0
bits (value.Vector v) = 0
bits (value.Moment t) = 0
bits (value.Handle h) = 0
bits (value.Pay p) = 0

abbrev pub digit_list : Value → List Digit
digit_list (value.Bool b) = []
digit_list (value.Int width n) = []
digit_list (value.Uint width n) = []
digit_list (value.Logic d) = d ∷ []
digit_list (value.Vector v) = digits v
digit_list (value.Moment t) = []
digit_list (value.Handle h) = []
digit_list (value.Pay p) = []

abbrev pub moment : Value → ℕ
moment (value.Bool b) = 0
moment (value.Int width n) = 0
moment (value.Uint width n) = 0
moment (value.Logic d) = 0
moment (value.Vector v) = 0
moment (value.Moment t) = t
moment (value.Handle h) = 0
moment (value.Pay p) = 0

abbrev pub one_digit : List Digit → Digit
one_digit [] = digit.X
one_digit (d ∷ ds) = d

-- the handle of a process, and of a payload
abbrev pub process_handle : Value → Option ℕ
process_handle (value.Bool b) = None
process_handle (value.Int width n) = None
process_handle (value.Uint width n) = None
process_handle (value.Logic d) = None
process_handle (value.Vector v) = None
process_handle (value.Moment t) = None
process_handle (value.Handle h) = h
process_handle (value.Pay p) = None

abbrev pub payload_handle : Value → Option ℕ
payload_handle (value.Bool b) = None
payload_handle (value.Int width n) = None
payload_handle (value.Uint width n) = None
payload_handle (value.Logic d) = None
payload_handle (value.Vector v) = None
payload_handle (value.Moment t) = None
payload_handle (value.Handle h) = None
payload_handle (value.Pay p) = p

-- a value that is read in an expression: an integer has 64 bits there
abbrev pub widened : Value → Value
widened (value.Bool b) = value.Bool b
widened (value.Int width n) = value.Int 64 n
widened (value.Uint width n) = value.Uint 64 n
widened (value.Logic d) = value.Logic d
widened (value.Vector v) = value.Vector v
widened (value.Moment t) = value.Moment t
widened (value.Handle h) = value.Handle h
widened (value.Pay p) = value.Pay p

-- a value that goes into a target: an integer is cut to the target's width and extended by its sign
abbrev pub cut_to : ValueType → Value → Value
cut_to type.Bool v = v
cut_to (type.Int width) v = value.Int width (cut_of sign.Signed width (bits v))
cut_to (type.Uint width) v = value.Uint width (cut_of sign.Unsigned width (bits v))
cut_to type.Logic v = v
cut_to (type.Vector width) v = v
cut_to type.Time v = v
cut_to type.Process v = v
cut_to type.Payload v = v

-- integers of expressions

abbrev pub sign_of : ValueType → Sign
sign_of type.Bool = sign.Unsigned
sign_of (type.Int width) = sign.Signed
sign_of (type.Uint width) = sign.Unsigned
sign_of type.Logic = sign.Unsigned
sign_of (type.Vector width) = sign.Unsigned
sign_of type.Time = sign.Unsigned
sign_of type.Process = sign.Unsigned
sign_of type.Payload = sign.Unsigned

abbrev pub signed_as : Sign → ℕ → Value
signed_as sign.Signed n = value.Int 64 n
signed_as sign.Unsigned n = value.Uint 64 n

abbrev pub unsigned : ℕ → Value
unsigned n = value.Uint 64 n

-- a signed number of 64 bits
abbrev pub signed : ℕ → Value
signed n = value.Int 64 n

abbrev pub bool_value : Bool → Value
bool_value b = value.Bool b

abbrev pub vector : List Digit → Value
vector ds = value.Vector (lv_of ds)

-- a time that is below 2^64
abbrev pub time_within : ℕ → Result ℕ RunFault
time_within t = if nat_lt t (2 ^ 64) then Ok t else Err fault.TimeOverflow

abbrev pub time_value : ℕ → Result Value RunFault
time_value t = on_ok (time_within t) (λ u. Ok (value.Moment u))

-- prefix operators

abbrev pub complement : ValueType → Value → Value
complement type.Bool v = bool_value (not (truth v))
complement (type.Int width) v = signed (2 ^ 64 - 1 - bits v)
complement (type.Uint width) v = unsigned (2 ^ 64 - 1 - bits v)
complement type.Logic v = value.Logic (not_of (one_digit (digit_list v)))
complement (type.Vector width) v = vector (map not_of (digit_list v))
complement type.Time v = v
complement type.Process v = v
complement type.Payload v = v

abbrev pub unary : UnaryOp → ValueType → Value → Value
unary unary_op.Negate t v = signed_as (sign_of t) (difference_of 0 (bits v))
unary unary_op.Not t v = bool_value (not (truth v))
unary unary_op.Complement t v = complement t v

-- binary operators

-- an operator on truth values, on bits and on digits
abbrev pub bitwise : (Bool → Bool → Bool) → (ℕ → ℕ → ℕ) → (Digit → Digit → Digit) → ValueType → Value → Value → Value
bitwise f g h type.Bool l r = bool_value (f (truth l) (truth r))
bitwise f g h (type.Int width) l r = signed (g (bits l) (bits r))
bitwise f g h (type.Uint width) l r = unsigned (g (bits l) (bits r))
bitwise f g h type.Logic l r = value.Logic (h (one_digit (digit_list l)) (one_digit (digit_list r)))
bitwise f g h (type.Vector width) l r = vector (digit_by_digit h (digit_list l) (digit_list r))
bitwise f g h type.Time l r = l
bitwise f g h type.Process l r = l
bitwise f g h type.Payload l r = l

abbrev pub differ : Bool → Bool → Bool
differ true b = not b
differ false b = b

-- whether the left one is less
abbrev pub less : ValueType → Value → Value → Bool
less type.Bool l r = false
less (type.Int width) l r = is_less sign.Signed (bits l) (bits r)
less (type.Uint width) l r = is_less sign.Unsigned (bits l) (bits r)
less type.Logic l r = false
less (type.Vector width) l r = false
less type.Time l r = nat_lt (moment l) (moment r)
less type.Process l r = false
less type.Payload l r = false

abbrev pub sum : ValueType → Value → Value → Result Value RunFault
sum type.Bool l r = Ok l
sum (type.Int width) l r = Ok (signed (sum_of (bits l) (bits r)))
sum (type.Uint width) l r = Ok (unsigned (sum_of (bits l) (bits r)))
sum type.Logic l r = Ok l
sum (type.Vector width) l r = Ok l
sum type.Time l r = time_value (moment l + moment r)
sum type.Process l r = Ok l
sum type.Payload l r = Ok l

-- a time less another: below 0 it is past the range too
abbrev pub time_less : ℕ → ℕ → Result Value RunFault
time_less s t = if nat_lt s t then Err fault.TimeOverflow else Ok (value.Moment (s - t))

abbrev pub difference : ValueType → Value → Value → Result Value RunFault
difference type.Bool l r = Ok l
difference (type.Int width) l r = Ok (signed (difference_of (bits l) (bits r)))
difference (type.Uint width) l r = Ok (unsigned (difference_of (bits l) (bits r)))
difference type.Logic l r = Ok l
difference (type.Vector width) l r = Ok l
difference type.Time l r = time_less (moment l) (moment r)
difference type.Process l r = Ok l
difference type.Payload l r = Ok l

-- a time so many times: the number is one of 64 bits
abbrev pub product : ValueType → Value → Value → Result Value RunFault
product type.Bool l r = Ok l
product (type.Int width) l r = Ok (signed (product_of (bits l) (bits r)))
product (type.Uint width) l r = Ok (unsigned (product_of (bits l) (bits r)))
product type.Logic l r = Ok l
product (type.Vector width) l r = Ok l
product type.Time l r = time_value (moment l * bits r)
product type.Process l r = Ok l
product type.Payload l r = Ok l

abbrev pub unless_zero : Sign → Option ℕ → Result Value RunFault
unless_zero s None = Err fault.DivideByZero
unless_zero s (Some n) = Ok (signed_as s n)

-- both operands are evaluated: of `&&` and `||` it is asked only where the left one does not decide
abbrev pub binary : BinaryOp → ValueType → Value → Value → Result Value RunFault
binary op.OrElse t l r = Ok (bool_value (truth l || truth r))
binary op.AndThen t l r = Ok (bool_value (truth l && truth r))
binary op.BitOr t l r = Ok (bitwise (λ a b. a || b) bit_or or_of t l r)
binary op.BitXor t l r = Ok (bitwise differ bit_xor xor_of t l r)
binary op.BitAnd t l r = Ok (bitwise (λ a b. a && b) bit_and and_of t l r)
binary op.Equal t l r = Ok (bool_value (is_same l r))
binary op.NotEqual t l r = Ok (bool_value (not (is_same l r)))
binary op.Less t l r = Ok (bool_value (less t l r))
binary op.LessEqual t l r = Ok (bool_value (not (less t r l)))
binary op.Greater t l r = Ok (bool_value (less t r l))
binary op.GreaterEqual t l r = Ok (bool_value (not (less t l r)))
binary op.ShiftLeft t l r = Ok (signed_as (sign_of t) (shifted_up (bits l) (bits r)))
binary op.ShiftRight t l r = Ok (signed_as (sign_of t) (shifted_down (sign_of t) (bits l) (bits r)))
binary op.Add t l r = sum t l r
binary op.Subtract t l r = difference t l r
binary op.Multiply t l r = product t l r
binary op.Divide t l r = unless_zero (sign_of t) (quotient_of (sign_of t) (bits l) (bits r))
binary op.Remainder t l r = unless_zero (sign_of t) (remainder_of (sign_of t) (bits l) (bits r))

-- whether the left operand decides
abbrev pub decides : BinaryOp → Value → Bool
decides op.OrElse l = truth l
decides op.AndThen l = not (truth l)
decides op.BitOr l = false
decides op.BitXor l = false
decides op.BitAnd l = false
decides op.Equal l = false
decides op.NotEqual l = false
decides op.Less l = false
decides op.LessEqual l = false
decides op.Greater l = false
decides op.GreaterEqual l = false
decides op.ShiftLeft l = false
decides op.ShiftRight l = false
decides op.Add l = false
decides op.Subtract l = false
decides op.Multiply l = false
decides op.Divide l = false
decides op.Remainder l = false

-- digits

abbrev pub index_within : ℕ → ℕ → Result ℕ RunFault
index_within i size = if nat_lt i size then Ok i else Err (fault.IndexRange i size)

abbrev pub bit_at : ℕ → ℕ → Bool
bit_at n i = (n / 2 ^ i) % 2 == 1

abbrev pub digit_or_x : Option Digit → Value
digit_or_x None = value.Logic digit.X
digit_or_x (Some d) = value.Logic d

-- the digit of this place
abbrev pub digit_at : ValueType → Value → ℕ → Result Value RunFault
digit_at type.Bool v i = Ok v
digit_at (type.Int width) v i = on_ok (index_within i 64) (λ n. Ok (bool_value (bit_at (bits v) n)))
digit_at (type.Uint width) v i = on_ok (index_within i 64) (λ n. Ok (bool_value (bit_at (bits v) n)))
digit_at type.Logic v i = Ok v
digit_at (type.Vector width) v i = on_ok (index_within i width) (λ n. Ok (digit_or_x (slice_get (digit_list v) n)))
digit_at type.Time v i = Ok v
digit_at type.Process v i = Ok v
digit_at type.Payload v i = Ok v

-- the bits, or the digits, from the first place down to the second
abbrev pub bits_between : ℕ → ℕ → ℕ → ℕ
bits_between n high low = (n / 2 ^ low) % 2 ^ (high + 1 - low)

abbrev pub digits_between : ValueType → Value → ℕ → ℕ → Value
digits_between type.Bool v high low = v
digits_between (type.Int width) v high low = unsigned (bits_between (bits v) high low)
digits_between (type.Uint width) v high low = unsigned (bits_between (bits v) high low)
digits_between type.Logic v high low = v
digits_between (type.Vector width) v high low = vector (take (high + 1 - low) (drop low (digit_list v)))
digits_between type.Time v high low = v
digits_between type.Process v high low = v
digits_between type.Payload v high low = v

-- conversions

abbrev pub is_one_digit : Digit → Bool
is_one_digit digit.Zero = false
is_one_digit digit.One = true
is_one_digit digit.Z = false
is_one_digit digit.X = false

abbrev pub digit_of_truth : Bool → Digit
digit_of_truth true = digit.One
digit_of_truth false = digit.Zero

abbrev pub number_of_truth : Bool → ℕ
number_of_truth true = 1
number_of_truth false = 0

-- the number that a value of this type is converted to
abbrev pub number_from : ValueType → Value → ℕ
number_from type.Bool v = number_of_truth (truth v)
number_from (type.Int width) v = bits v
number_from (type.Uint width) v = bits v
number_from type.Logic v = value_of (digit_list v)
number_from (type.Vector width) v = value_of (digit_list v)
number_from type.Time v = 0
number_from type.Process v = 0
number_from type.Payload v = 0

abbrev pub truth_from : ValueType → Value → Bool
truth_from type.Bool v = truth v
truth_from (type.Int width) v = not (bits v == 0)
truth_from (type.Uint width) v = not (bits v == 0)
truth_from type.Logic v = is_one_digit (one_digit (digit_list v))
truth_from (type.Vector width) v = false
truth_from type.Time v = false
truth_from type.Process v = false
truth_from type.Payload v = false

abbrev pub digits_from : ℕ → ValueType → Value → List Digit
digits_from width type.Bool v = []
digits_from width (type.Int other) v = binary_digits width (bits v)
digits_from width (type.Uint other) v = binary_digits width (bits v)
digits_from width type.Logic v = resized width (digit_list v)
digits_from width (type.Vector other) v = resized width (digit_list v)
digits_from width type.Time v = []
digits_from width type.Process v = []
digits_from width type.Payload v = []

-- to the first type from the second
abbrev pub converted : ValueType → ValueType → Value → Value
converted type.Bool from v = bool_value (truth_from from v)
converted (type.Int width) from v = signed (number_from from v)
converted (type.Uint width) from v = unsigned (number_from from v)
converted type.Logic from v = value.Logic (digit_of_truth (truth v))
converted (type.Vector width) from v = vector (digits_from width from v)
converted type.Time from v = v
converted type.Process from v = v
converted type.Payload from v = v

-- two vectors as one, the first above the second
abbrev pub joined_digits : Value → Value → Value
joined_digits upper lower = vector (digit_list lower ++ digit_list upper)
