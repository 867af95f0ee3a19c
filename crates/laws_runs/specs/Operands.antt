-- Which operands the operators of an expression meet, wherever they are evaluated: each has the type that the operator's table
-- asks for.
use Rattle.std.specs.Prelude.{⊤, ℕ, IfOk}
use Rattle.sim_model.specs.FlatDesign.Code as code
use Rattle.sim_model.specs.FlatDesign.Code.{Term}
use Rattle.sim_model.specs.FlatDesign.Typed.{IsInteger, UnaryType, BinaryType, DigitType, DigitsType, ConvertType}
use Rattle.sim_model.specs.FlatDesign.ValueTypes.{type_of_value}
use Rattle.sim_model.specs.FlatDesign.declared.value_types.ValueType.{ValueType}
use Rattle.sim_model.specs.FlatDesign.declared.value_types.ValueType.TheVariants as type
use Rattle.sim_model.specs.Reading.{Here, val}
use Rattle.laws_runs.specs.Contents.{IsOf}

-- where it has a value and no fault, it is one of this type; an integer of 64 bits; or a vector
abbrev pub Gives : Here → Term → ValueType → Type 0
Gives h e t = IfOk (val h e) (IsOf t)

abbrev pub GivesInteger : Here → Term → Type 0
GivesInteger h e = IfOk (val h e) (λ v. IsInteger (type_of_value v))

abbrev pub GivesVector : Here → Term → Type 0
GivesVector h e = (width : ℕ) × Gives h e (type.Vector width)

abbrev pub OperandsFit : Here → Term → Type 0
OperandsFit h (code.literal v) = ⊤
OperandsFit h code.now = ⊤
OperandsFit h code.myself = ⊤
OperandsFit h (code.name n) = ⊤
OperandsFit h (code.placed n e) = OperandsFit h e × GivesInteger h e
OperandsFit h (code.member n m) = ⊤
OperandsFit h (code.placed_member n e m) = OperandsFit h e × GivesInteger h e
OperandsFit h (code.element n e) = OperandsFit h e × GivesInteger h e
OperandsFit h (code.payload_byte n b e) = OperandsFit h e × GivesInteger h e
OperandsFit h (code.digit t e i) = OperandsFit h e × OperandsFit h i × Gives h e t × GivesInteger h i × ((u : ValueType) × DigitType t u)
OperandsFit h (code.digits t e high low) = OperandsFit h e × Gives h e t × ((u : ValueType) × DigitsType t high low u)
OperandsFit h (code.unary o t e) = OperandsFit h e × Gives h e t × ((u : ValueType) × UnaryType o t u)
OperandsFit h (code.binary o t l r) = OperandsFit h l × OperandsFit h r × Gives h l t × ((s : ValueType) × Gives h r s × ((u : ValueType) × BinaryType o t s u))
OperandsFit h (code.convert to from e) = OperandsFit h e × Gives h e from × ConvertType to from
OperandsFit h (code.concat u l) = OperandsFit h u × OperandsFit h l × GivesVector h u × GivesVector h l
