-- The operators: which types of operands they take, and what they give.
use Rattle.std.specs.Prelude.{ℕ, ◌+◌, ◌-◌, ◌==◌, ◌&&◌, ◌||◌, Bool, true, false, nat_le, nat_lt, if◌then◌else◌, Option, Some, None}
use Rattle.flat_design.specs.ModelTree.declared.expressions.UnaryOp.{UnaryOp}
use Rattle.flat_design.specs.ModelTree.declared.expressions.UnaryOp.TheVariants as unary_op
use Rattle.flat_design.specs.ModelTree.declared.expressions.BinaryOp.{BinaryOp}
use Rattle.flat_design.specs.ModelTree.declared.expressions.BinaryOp.TheVariants as op
use Rattle.flat_design.specs.ModelTree.declared.expressions.Conversion.{Conversion}
use Rattle.flat_design.specs.ModelTree.declared.expressions.Conversion.TheVariants as conversion
use Rattle.flat_design.specs.declared.value_types.ValueType.{ValueType}
use Rattle.flat_design.specs.declared.value_types.ValueType.TheVariants as type
use Rattle.model_rules.specs.declared.meanings.ExpressionType.{ExpressionType}
use Rattle.model_rules.specs.declared.meanings.ExpressionType.TheVariants as t

abbrev pub option_if : {A : Type 0} → Bool → A → Option A
option_if test x = if test then Some x else None

-- the types of two parts taken together, where both are known
abbrev pub both : {A B C : Type 0} → (A → B → Option C) → Option A → Option B → Option C
both f None b = None
both f (Some a) None = None
both f (Some a) (Some b) = f a b

-- the type that a value of this type has in an expression, where an integer has 64 bits
abbrev pub seen_as : ValueType → ExpressionType
seen_as type.Bool = t.Bool
seen_as (type.Int width) = t.Signed
seen_as (type.Uint width) = t.Unsigned
seen_as type.Logic = t.Logic
seen_as (type.Vector width) = t.Vector width
seen_as type.Time = t.Time
seen_as type.Process = t.Process
seen_as type.Payload = t.Payload

-- the type of its values: what is still free is signed
abbrev pub evaluated_as : ExpressionType → ValueType
evaluated_as t.Free = type.Int 64
evaluated_as t.Signed = type.Int 64
evaluated_as t.Unsigned = type.Uint 64
evaluated_as t.Bool = type.Bool
evaluated_as t.Logic = type.Logic
evaluated_as (t.Vector width) = type.Vector width
evaluated_as t.Time = type.Time
evaluated_as t.Process = type.Process
evaluated_as t.Payload = type.Payload

abbrev pub is_integer : ExpressionType → Bool
is_integer t.Free = true
is_integer t.Signed = true
is_integer t.Unsigned = true
is_integer t.Bool = false
is_integer t.Logic = false
is_integer (t.Vector width) = false
is_integer t.Time = false
is_integer t.Process = false
is_integer t.Payload = false

abbrev pub is_bool : ExpressionType → Bool
is_bool t.Bool = true
is_bool other = false

abbrev pub is_logic : ExpressionType → Bool
is_logic t.Logic = true
is_logic other = false

abbrev pub is_time : ExpressionType → Bool
is_time t.Time = true
is_time other = false

abbrev pub is_process : ExpressionType → Bool
is_process t.Process = true
is_process other = false

abbrev pub is_payload : ExpressionType → Bool
is_payload t.Payload = true
is_payload other = false

abbrev pub is_vector_of : ℕ → ExpressionType → Bool
is_vector_of width (t.Vector other) = width == other
is_vector_of width other = false

-- the sign that two integers have together: a free one takes that of the other
abbrev pub sign_with_signed : ExpressionType → Option ExpressionType
sign_with_signed t.Free = Some t.Signed
sign_with_signed t.Signed = Some t.Signed
sign_with_signed other = None

abbrev pub sign_with_unsigned : ExpressionType → Option ExpressionType
sign_with_unsigned t.Free = Some t.Unsigned
sign_with_unsigned t.Unsigned = Some t.Unsigned
sign_with_unsigned other = None

abbrev pub one_sign : ExpressionType → ExpressionType → Option ExpressionType
one_sign t.Free right = option_if (is_integer right) right
one_sign t.Signed right = sign_with_signed right
one_sign t.Unsigned right = sign_with_unsigned right
one_sign t.Bool right = None
one_sign t.Logic right = None
one_sign (t.Vector width) right = None
one_sign t.Time right = None
one_sign t.Process right = None
one_sign t.Payload right = None

-- integers of one sign, or two times
abbrev pub quantities : ExpressionType → ExpressionType → Option ExpressionType
quantities t.Free right = one_sign t.Free right
quantities t.Signed right = one_sign t.Signed right
quantities t.Unsigned right = one_sign t.Unsigned right
quantities t.Bool right = None
quantities t.Logic right = None
quantities (t.Vector width) right = None
quantities t.Time right = option_if (is_time right) t.Time
quantities t.Process right = None
quantities t.Payload right = None

-- integers of one sign, two truth values, two logic digits, or vectors of one width
abbrev pub bitwise : ExpressionType → ExpressionType → Option ExpressionType
bitwise t.Free right = one_sign t.Free right
bitwise t.Signed right = one_sign t.Signed right
bitwise t.Unsigned right = one_sign t.Unsigned right
bitwise t.Bool right = option_if (is_bool right) t.Bool
bitwise t.Logic right = option_if (is_logic right) t.Logic
bitwise (t.Vector width) right = option_if (is_vector_of width right) (t.Vector width)
bitwise t.Time right = None
bitwise t.Process right = None
bitwise t.Payload right = None

-- what is compared for equality: the same, or two times, two handles of one kind
abbrev pub compared : ExpressionType → ExpressionType → Option ExpressionType
compared t.Free right = one_sign t.Free right
compared t.Signed right = one_sign t.Signed right
compared t.Unsigned right = one_sign t.Unsigned right
compared t.Bool right = option_if (is_bool right) t.Bool
compared t.Logic right = option_if (is_logic right) t.Logic
compared (t.Vector width) right = option_if (is_vector_of width right) (t.Vector width)
compared t.Time right = option_if (is_time right) t.Time
compared t.Process right = option_if (is_process right) t.Process
compared t.Payload right = option_if (is_payload right) t.Payload

abbrev pub truths : ExpressionType → ExpressionType → Option ExpressionType
truths left right = option_if (is_bool left && is_bool right) t.Bool

-- an integer, and any integer as the amount
abbrev pub shifted : ExpressionType → ExpressionType → Option ExpressionType
shifted left right = option_if (is_integer left && is_integer right) left

-- integers of one sign, or a time and an integer
abbrev pub multiplied : ExpressionType → ExpressionType → Option ExpressionType
multiplied t.Free right = one_sign t.Free right
multiplied t.Signed right = one_sign t.Signed right
multiplied t.Unsigned right = one_sign t.Unsigned right
multiplied t.Bool right = None
multiplied t.Logic right = None
multiplied (t.Vector width) right = None
multiplied t.Time right = option_if (is_integer right) t.Time
multiplied t.Process right = None
multiplied t.Payload right = None

-- what the operands are taken as together; none where they do not fit
abbrev pub operands : BinaryOp → ExpressionType → ExpressionType → Option ExpressionType
operands op.OrElse left right = truths left right
operands op.AndThen left right = truths left right
operands op.BitOr left right = bitwise left right
operands op.BitXor left right = bitwise left right
operands op.BitAnd left right = bitwise left right
operands op.Equal left right = compared left right
operands op.NotEqual left right = compared left right
operands op.Less left right = quantities left right
operands op.LessEqual left right = quantities left right
operands op.Greater left right = quantities left right
operands op.GreaterEqual left right = quantities left right
operands op.ShiftLeft left right = shifted left right
operands op.ShiftRight left right = shifted left right
operands op.Add left right = quantities left right
operands op.Subtract left right = quantities left right
operands op.Multiply left right = multiplied left right
operands op.Divide left right = one_sign left right
operands op.Remainder left right = one_sign left right

-- what an operator gives for operands that are taken as this
abbrev pub given : BinaryOp → ExpressionType → ExpressionType
given op.OrElse taken = t.Bool
given op.AndThen taken = t.Bool
given op.BitOr taken = taken
given op.BitXor taken = taken
given op.BitAnd taken = taken
given op.Equal taken = t.Bool
given op.NotEqual taken = t.Bool
given op.Less taken = t.Bool
given op.LessEqual taken = t.Bool
given op.Greater taken = t.Bool
given op.GreaterEqual taken = t.Bool
given op.ShiftLeft taken = taken
given op.ShiftRight taken = taken
given op.Add taken = taken
given op.Subtract taken = taken
given op.Multiply taken = taken
given op.Divide taken = taken
given op.Remainder taken = taken

-- what `~` takes
abbrev pub is_bitwise : ExpressionType → Bool
is_bitwise t.Free = true
is_bitwise t.Signed = true
is_bitwise t.Unsigned = true
is_bitwise t.Bool = true
is_bitwise t.Logic = true
is_bitwise (t.Vector width) = true
is_bitwise t.Time = false
is_bitwise t.Process = false
is_bitwise t.Payload = false

abbrev pub unary_type : UnaryOp → ExpressionType → Option ExpressionType
unary_type unary_op.Negate e = option_if (is_integer e) e
unary_type unary_op.Not e = option_if (is_bool e) t.Bool
unary_type unary_op.Complement e = option_if (is_bitwise e) e

-- conversions

-- what `int` and `uint` take
abbrev pub is_number_like : ExpressionType → Bool
is_number_like t.Free = true
is_number_like t.Signed = true
is_number_like t.Unsigned = true
is_number_like t.Bool = true
is_number_like t.Logic = true
is_number_like (t.Vector width) = true
is_number_like t.Time = false
is_number_like t.Process = false
is_number_like t.Payload = false

abbrev pub conversion_type : Conversion → ExpressionType → Option ExpressionType
conversion_type conversion.Int e = option_if (is_number_like e) t.Signed
conversion_type conversion.Uint e = option_if (is_number_like e) t.Unsigned
conversion_type conversion.Bool e = option_if (is_integer e || is_logic e) t.Bool
conversion_type conversion.Logic e = option_if (is_bool e) t.Logic

abbrev pub becomes_vector : ℕ → ExpressionType → Bool
becomes_vector width t.Free = true
becomes_vector width t.Signed = true
becomes_vector width t.Unsigned = true
becomes_vector width t.Bool = false
becomes_vector width t.Logic = width == 1
becomes_vector width (t.Vector other) = true
becomes_vector width t.Time = false
becomes_vector width t.Process = false
becomes_vector width t.Payload = false

abbrev pub joined_width : ℕ → ExpressionType → Option ExpressionType
joined_width upper (t.Vector lower) = option_if (nat_le (upper + lower) 64) (t.Vector (upper + lower))
joined_width upper other = None

-- two vectors of at most 64 digits together
abbrev pub concat_type : ExpressionType → ExpressionType → Option ExpressionType
concat_type (t.Vector upper) lower = joined_width upper lower
concat_type other lower = None

-- digits

abbrev pub digit_type : ExpressionType → Option ExpressionType
digit_type t.Free = Some t.Bool
digit_type t.Signed = Some t.Bool
digit_type t.Unsigned = Some t.Bool
digit_type t.Bool = None
digit_type t.Logic = None
digit_type (t.Vector width) = Some t.Logic
digit_type t.Time = None
digit_type t.Process = None
digit_type t.Payload = None

-- how many digits can be sliced; none of a type without digits
abbrev pub digit_count : ExpressionType → Option ℕ
digit_count t.Free = Some 64
digit_count t.Signed = Some 64
digit_count t.Unsigned = Some 64
digit_count t.Bool = None
digit_count t.Logic = None
digit_count (t.Vector width) = Some width
digit_count t.Time = None
digit_count t.Process = None
digit_count t.Payload = None

-- the bounds of a slice are in range
abbrev pub is_within : ℕ → ℕ → ℕ → Bool
is_within high low count = nat_le low high && nat_lt high count

-- the type of some digits of a type that has digits
abbrev pub digits_of : ℕ → ℕ → ExpressionType → ExpressionType
digits_of high low (t.Vector width) = t.Vector ((high - low) + 1)
digits_of high low other = t.Unsigned

abbrev pub slice_in : ℕ → ℕ → ExpressionType → Option ℕ → Option ExpressionType
slice_in high low e None = None
slice_in high low e (Some count) = option_if (is_within high low count) (digits_of high low e)

abbrev pub slice_type : ℕ → ℕ → ExpressionType → Option ExpressionType
slice_type high low e = slice_in high low e (digit_count e)
