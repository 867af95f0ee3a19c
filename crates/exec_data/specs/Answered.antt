-- The answers of functions.
use Rattle.std.specs.Prelude.{ℕ, Option, Some, None}
use Rattle.flat_design.specs.Code.{Arena, body_at}
use Rattle.flat_design.specs.declared.value_types.ValueType.{ValueType}
use Rattle.kernel_view.specs.SimModel.Calls.{answer_in}

-- the type of the answers of the function of this number, where it has one
abbrev pub type_of_answers : Arena → Option ℕ → Option ValueType
type_of_answers a None = None
type_of_answers a (Some f) = answer_in (body_at a f)
