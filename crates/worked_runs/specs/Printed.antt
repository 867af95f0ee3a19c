-- The models of the runs of expressions: a method prints their values, one after another.
use Rattle.std.specs.Prelude.{ℕ, ◌^◌, ◌-◌, Bool, List, [], ◌∷◌, codes}
use Rattle.sim_model.specs.LogicValues.declared.kinds.Digit.{Digit}
use Rattle.sim_model.specs.LogicValues.declared.kinds.Digit.TheVariants as digit
use Rattle.sim_model.specs.LogicValues.declared.kinds.Value.TheVariants as value
use Rattle.sim_model.specs.LogicValues.Planes.{lv_of}
use Rattle.sim_model.specs.ModelTree.declared.expressions.UnaryOp.TheVariants as unary_op
use Rattle.sim_model.specs.ModelTree.declared.expressions.BinaryOp.{BinaryOp}
use Rattle.sim_model.specs.ModelTree.declared.expressions.BinaryOp.TheVariants as op
use Rattle.sim_model.specs.FlatDesign.declared.value_types.ValueType.{ValueType}
use Rattle.sim_model.specs.FlatDesign.declared.value_types.ValueType.TheVariants as type
use Rattle.sim_model.specs.FlatDesign.declared.terms.Expr.{Expr, Digit', Digits', Convert', Concat'}
use Rattle.sim_model.specs.FlatDesign.declared.terms.Expr.TheVariants as expr
use Rattle.sim_model.specs.FlatDesign.declared.design.Design.{Design}
use Rattle.worked_runs.specs.Body.{Body, end, then, boxed, number, moment, unary, binary, say_value}
use Rattle.worked_runs.specs.Build.{design_of, method}
use Rattle.worked_runs.specs.Rows.{signed, integer}

abbrev pub prints : List Expr → Body
prints [] = end
prints (e ∷ es) = then (say_value (codes "v") e) (prints es)

abbrev pub printed : List Expr → Design
printed es = design_of (method (codes "s") [] (prints es) ∷ [])

-- integers: literals with a sign, literals without one, and operators on each

abbrev pub unsigned : ValueType
unsigned = type.Uint 64

abbrev pub minus : ℕ → Expr
minus n = unary unary_op.Negate signed (integer n)

abbrev pub least : Expr
least = integer (2 ^ 63)

abbrev pub greatest : Expr
greatest = number (2 ^ 64 - 1)

abbrev pub int : BinaryOp → Expr → Expr → Expr
int o l r = binary o signed l r

abbrev pub uint : BinaryOp → Expr → Expr → Expr
uint o l r = binary o unsigned l r

-- truth values

abbrev pub truth : Bool → Expr
truth b = expr.Literal (value.Bool b)

abbrev pub bool : BinaryOp → Expr → Expr → Expr
bool o l r = binary o type.Bool l r

-- what is a fault where it is evaluated
abbrev pub faulty : Expr
faulty = int op.Equal (int op.Divide (integer 1) (integer 0)) (integer 0)

-- times

abbrev pub time : BinaryOp → Expr → Expr → Expr
time o l r = binary o type.Time l r

abbrev pub latest : Expr
latest = moment (2 ^ 64 - 1)

-- digits; a vector is written with the digit of its greatest place first

abbrev pub logic : Digit → Expr
logic d = expr.Literal (value.Logic d)

abbrev pub vector : List Digit → Expr
vector ds = expr.Literal (value.Vector (lv_of ds))

abbrev pub four : Digit → Digit → Digit → Digit → Expr
four d c b a = vector (a ∷ b ∷ c ∷ d ∷ [])

abbrev pub two : Digit → Digit → Expr
two b a = vector (a ∷ b ∷ [])

-- one digit of each kind
abbrev pub mixed : Expr
mixed = four digit.Zero digit.One digit.Z digit.X

abbrev pub zeros : Expr
zeros = four digit.Zero digit.Zero digit.Zero digit.Zero

abbrev pub ones : Expr
ones = four digit.One digit.One digit.One digit.One

abbrev pub vectors : BinaryOp → Expr → Expr → Expr
vectors o l r = binary o (type.Vector 4) l r

abbrev pub logics : BinaryOp → Expr → Expr → Expr
logics o l r = binary o type.Logic l r

abbrev pub digit_of : ValueType → Expr → Expr → Expr
digit_of t e i = Digit' t boxed e boxed i

abbrev pub digits_of : ValueType → Expr → ℕ → ℕ → Expr
digits_of t e high low = Digits' t boxed e high low

abbrev pub joined : Expr → Expr → Expr
joined upper lower = Concat' boxed upper boxed lower

-- to the first type from the second
abbrev pub to : ValueType → ValueType → Expr → Expr
to t from e = Convert' t from boxed e
