-- The code of an expression at a place of a model. There is none where the expression has no type there. Lines and parentheses
-- have no place in the code; each operation has the type of its operands.
use Rattle.std.specs.Prelude.{ℕ, ◌*◌, ◌-◌, ◌^◌, List, [], ◌∷◌, option_map, option_and_then, Option, Some, None}
use Rattle.model_rules.specs.LogicValues.declared.kinds.Digit.{Digit}
use Rattle.model_rules.specs.LogicValues.declared.kinds.Value.{Value}
use Rattle.model_rules.specs.LogicValues.declared.kinds.Value.TheVariants as value
use Rattle.model_rules.specs.LogicValues.Planes.{lv_of}
use Rattle.model_rules.specs.SimTime.Times.{picoseconds_in}
use Rattle.model_rules.specs.ModelTree.Tree as tree
use Rattle.model_rules.specs.ModelTree.declared.expressions.BinaryOp.{BinaryOp}
use Rattle.model_rules.specs.ModelTree.declared.expressions.BinaryOp.TheVariants as op
use Rattle.model_rules.specs.ModelTree.declared.expressions.Conversion.{Conversion}
use Rattle.model_rules.specs.ModelTree.declared.expressions.Conversion.TheVariants as conversion
use Rattle.model_rules.specs.ModelTree.declared.expressions.NamedConstant.{NamedConstant}
use Rattle.model_rules.specs.ModelTree.declared.expressions.NamedConstant.TheVariants as constant
use Rattle.model_rules.specs.FlatDesign.Code as code
use Rattle.model_rules.specs.FlatDesign.Code.{Term}
use Rattle.model_rules.specs.FlatDesign.declared.value_types.ValueType.{ValueType}
use Rattle.model_rules.specs.FlatDesign.declared.value_types.ValueType.TheVariants as type
use Rattle.model_rules.specs.FlatDesign.declared.names.NameUse.{NameUse}
use Rattle.model_rules.specs.FlatDesign.declared.names.NameUse.TheVariants as name_use
use Rattle.model_rules.specs.FlatDesign.declared.names.PayloadBytes.{PayloadBytes}
use Rattle.model_rules.specs.Members.{row_of, value_member}
use Rattle.model_rules.specs.declared.meanings.ValueMember.{ValueMember}
use Rattle.model_rules.specs.declared.meanings.ValueMember.TheVariants as reached
use Rattle.model_rules.specs.Scopes.{Scope, meaning_of, use_of}
use Rattle.model_rules.specs.Operators.{option_if, both, evaluated_as, operands}
use Rattle.model_rules.specs.Types.{value_of, at_number, at_computed, is_time_literal, type_of}
use Rattle.model_rules.specs.declared.meanings.ExpressionType.{ExpressionType}
use Rattle.model_rules.specs.declared.meanings.ExpressionType.TheVariants as t
use Rattle.model_rules.specs.declared.meanings.Meaning.{Meaning}
use Rattle.model_rules.specs.declared.meanings.Meaning.TheVariants as meaning

-- literals

-- a number that is still free is a signed one
abbrev pub number : ℕ → Term
number n = code.literal (value.Int 64 n)

-- the number modulo 2^64 of a named constant
abbrev pub constant_bits : NamedConstant → ℕ
constant_bits constant.Read = 0
constant_bits constant.Write = 1
constant_bits constant.Ignore = 2
constant_bits constant.OkResponse = 1
constant_bits constant.Incomplete = 0
constant_bits constant.GenericError = 2 ^ 64 - 1
constant_bits constant.AddressError = 2 ^ 64 - 2
constant_bits constant.CommandError = 2 ^ 64 - 3
constant_bits constant.BurstError = 2 ^ 64 - 4
constant_bits constant.ByteEnableError = 2 ^ 64 - 5
constant_bits constant.BeginReq = 1
constant_bits constant.EndReq = 2
constant_bits constant.BeginResp = 3
constant_bits constant.EndResp = 4
constant_bits constant.Accepted = 0
constant_bits constant.Updated = 1
constant_bits constant.Completed = 2

abbrev pub logic_value : List Digit → Value
logic_value [] = value.Vector (lv_of [])
logic_value (d ∷ []) = value.Logic d
logic_value (d ∷ e ∷ ds) = value.Vector (lv_of (d ∷ e ∷ ds))

-- operands

-- the same integer taken as an unsigned one: what is written out is so from the start
abbrev pub as_unsigned : Term → Term
as_unsigned (code.literal (value.Int width n)) = code.literal (value.Uint 64 n)
as_unsigned other = code.convert (type.Uint 64) (type.Int 64) other

-- an operand of the first type where the operands are taken as the second together
abbrev pub taken_as : ExpressionType → ExpressionType → Term → Term
taken_as t.Free t.Unsigned e = as_unsigned e
taken_as own taken e = e

-- the amount of a shift and the factor of a time keep their own sign
abbrev pub right_taken : BinaryOp → ExpressionType → ExpressionType → ExpressionType
right_taken op.OrElse own taken = taken
right_taken op.AndThen own taken = taken
right_taken op.BitOr own taken = taken
right_taken op.BitXor own taken = taken
right_taken op.BitAnd own taken = taken
right_taken op.Equal own taken = taken
right_taken op.NotEqual own taken = taken
right_taken op.Less own taken = taken
right_taken op.LessEqual own taken = taken
right_taken op.Greater own taken = taken
right_taken op.GreaterEqual own taken = taken
right_taken op.ShiftLeft own taken = own
right_taken op.ShiftRight own taken = own
right_taken op.Add own taken = taken
right_taken op.Subtract own taken = taken
right_taken op.Multiply own taken = taken
right_taken op.Divide own taken = taken
right_taken op.Remainder own taken = taken

-- a part with its type, where it has one
pub record Typed : Type 0 where
  pub type_ : ExpressionType
  pub term : Term

abbrev pub typed : Option ExpressionType → Option Term → Option Typed
typed e x = both (λ a b. Some (record { type_ = a; term = b })) e x

abbrev pub joined : BinaryOp → Typed → Typed → ExpressionType → Term
joined o l r taken =
    code.binary o (evaluated_as taken) (taken_as l.type_ taken l.term) (taken_as r.type_ (right_taken o r.type_ taken) r.term)

abbrev pub binary_term : BinaryOp → Typed → Typed → Option Term
binary_term o l r = option_map (joined o l r) (operands o l.type_ r.type_)

-- what an expression is made into: a name, with the place of a port's channel, the bytes of a payload, or a value
pub data Made : Type 0 where
  nothing : Made
  object : NameUse → Option Term → Meaning → Made
  bytes : NameUse → PayloadBytes → Made
  value_made : Term → Made

abbrev pub value_if : Option Term → Made
value_if None = nothing
value_if (Some e) = value_made e

abbrev pub object_if : Option Term → Option NameUse → Option Meaning → Made
object_if place n None = nothing
object_if place None (Some m) = nothing
object_if place (Some n) (Some m) = object n place m

-- at a computed place
abbrev pub placed_made : Option Term → Option NameUse → Option Meaning → Made
placed_made None n m = nothing
placed_made (Some place) n m = object_if (Some place) n m

-- a port's channel is read at its place, which no local variable has
abbrev pub placed_term : NameUse → Option Term → Option Term
placed_term n None = Some (code.name n)
placed_term (name_use.Local i) (Some place) = None
placed_term (name_use.Declared n) (Some place) = Some (code.placed n place)

abbrev pub name_term : NameUse → Option Term → Option ExpressionType → Option Term
name_term n place None = None
name_term n place (Some e) = placed_term n place

abbrev pub term_made : Made → Option Term
term_made nothing = None
term_made (object n place m) = name_term n place (value_of m)
term_made (bytes n b) = None
term_made (value_made e) = Some e

abbrev pub placed_member : NameUse → Option Term → ValueMember → Made
placed_member n None (reached.One m) = value_made (code.member n m)
placed_member n None (reached.Many b) = bytes n b
placed_member (name_use.Local i) (Some place) member = nothing
placed_member (name_use.Declared n) (Some place) (reached.One m) = value_made (code.placed_member n place m)
placed_member (name_use.Declared n) (Some place) (reached.Many b) = nothing

abbrev pub member_if : NameUse → Option Term → Option ValueMember → Made
member_if n place None = nothing
member_if n place (Some m) = placed_member n place m

abbrev pub member_made : List ℕ → Made → Made
member_made name nothing = nothing
member_made name (object n place m) = member_if n place (option_and_then (λ row. value_member row name) (row_of m))
member_made name (bytes n b) = nothing
member_made name (value_made e) = nothing

-- an element of a memory, a byte of a payload, or a digit of a value of this type
abbrev pub memory_element : NameUse → Term → Option Term
memory_element (name_use.Local i) index = None
memory_element (name_use.Declared n) index = Some (code.element n index)

abbrev pub digit_term : Option ExpressionType → Option Term → Term → Option Term
digit_term e x index = both (λ a b. Some (code.digit (evaluated_as a) b index)) e x

abbrev pub object_element : NameUse → Meaning → Option ExpressionType → Option Term → Term → Option Term
object_element n meaning.Memory e x index = memory_element n index
object_element n other e x index = digit_term e x index

abbrev pub element_at : Made → Option ExpressionType → Term → Option Term
element_at nothing e index = None
element_at (object n place m) e index = object_element n m e (term_made (object n place m)) index
element_at (bytes n b) e index = Some (code.payload_byte n b index)
element_at (value_made x) e index = digit_term e (Some x) index

-- to the type of a conversion from another one
abbrev pub converted_to : Conversion → ValueType
converted_to conversion.Int = type.Int 64
converted_to conversion.Uint = type.Uint 64
converted_to conversion.Bool = type.Bool
converted_to conversion.Logic = type.Logic

abbrev pub convert_term : ValueType → Typed → Term
convert_term to x = code.convert to (evaluated_as x.type_) x.term

-- an expression is made into something where it has a type, or else where it is an object or bytes
abbrev pub if_typed : Option ExpressionType → Option Term → Made
if_typed None x = nothing
if_typed (Some e) x = value_if x

abbrev pub made_of : Scope → tree.Expression → Made
made_of s (tree.number line n) = value_made (number n)
made_of s (tree.time line n unit) = value_if (option_if (is_time_literal n unit) (code.literal (value.Moment (n * picoseconds_in unit))))
made_of s (tree.logic line digits) = value_made (code.literal (logic_value digits))
made_of s (tree.truth line b) = value_made (code.literal (value.Bool b))
made_of s (tree.now line) = value_made code.now
made_of s (tree.myself line) = value_made code.myself
made_of s (tree.constant line word) = value_made (number (constant_bits word))
made_of s (tree.paren line e) = value_if (term_made (made_of s e))
made_of s (tree.convert line c e) =
    if_typed (type_of s (tree.convert line c e)) (option_map (convert_term (converted_to c)) (typed (type_of s e) (term_made (made_of s e))))
made_of s (tree.to_vector line width e) =
    if_typed (type_of s (tree.to_vector line width e)) (option_map (convert_term (type.Vector width)) (typed (type_of s e) (term_made (made_of s e))))
made_of s (tree.concat line upper lower) =
    if_typed (type_of s (tree.concat line upper lower)) (both (λ u l. Some (code.concat u l)) (term_made (made_of s upper)) (term_made (made_of s lower)))
made_of s (tree.named line name) = object_if None (use_of s name) (meaning_of s name)
made_of s (tree.placed line name n) = object_if (Some (number n)) (use_of s name) (option_and_then (at_number n) (meaning_of s name))
made_of s (tree.placed_by line name e) = placed_made (term_made (made_of s e)) (use_of s name) (option_and_then (at_computed (type_of s e)) (meaning_of s name))
made_of s (tree.member e name) = member_made name (made_of s e)
made_of s (tree.element e index) =
    if_typed (type_of s (tree.element e index)) (option_and_then (element_at (made_of s e) (type_of s e)) (term_made (made_of s index)))
made_of s (tree.slice e high low) =
    if_typed (type_of s (tree.slice e high low))
    (option_map (λ (x : Typed). code.digits (evaluated_as x.type_) x.term high low) (typed (type_of s e) (term_made (made_of s e))))
made_of s (tree.unary line o e) =
    if_typed (type_of s (tree.unary line o e))
    (option_map (λ (x : Typed). code.unary o (evaluated_as x.type_) x.term) (typed (type_of s e) (term_made (made_of s e))))
made_of s (tree.binary o left right) =
    value_if (both (binary_term o) (typed (type_of s left) (term_made (made_of s left))) (typed (type_of s right) (term_made (made_of s right))))

-- the code of an expression that is a value
abbrev pub term_of : Scope → tree.Expression → Option Term
term_of s e = term_made (made_of s e)
