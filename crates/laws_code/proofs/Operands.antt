-- The rules on operands give the types of the code.
use Rattle.std.proofs.Common.{◌≡◌, ◌≤◌, ◌<◌, ◌⊎◌, inl, inr, ℕ, ◌+◌, ◌-◌, ◌==◌, Bool, true, false, ◌&&◌, ◌||◌, Some, refl, sym, ap, subst, arith, nat_lt}
use Rattle.std.proofs.lemmas.Bool.Decides.{nat_tests}
use Rattle.std.specs.Prelude.{⊤, nat_le}
use Rattle.code_rules.specs.ModelTree.declared.expressions.UnaryOp.{UnaryOp}
use Rattle.code_rules.specs.ModelTree.declared.expressions.UnaryOp.TheVariants as unary_op
use Rattle.code_rules.specs.ModelTree.declared.expressions.BinaryOp.{BinaryOp}
use Rattle.code_rules.specs.ModelTree.declared.expressions.BinaryOp.TheVariants as op
use Rattle.code_rules.specs.ModelTree.declared.expressions.Conversion.{Conversion}
use Rattle.code_rules.specs.ModelTree.declared.expressions.Conversion.TheVariants as conversion
use Rattle.code_rules.specs.FlatDesign.Code as code
use Rattle.code_rules.specs.FlatDesign.Code.{Term}
use Rattle.code_rules.specs.FlatDesign.Denotes.{Context}
use Rattle.code_rules.specs.FlatDesign.Typed.{IsInteger, IsBitwise, IsCompared, IsQuantity, IsDigits, UnaryType, BinaryType, DigitType, DigitsType, ConvertType, HasType, FitsIn}
use Rattle.code_rules.specs.FlatDesign.ValueTypes.{in_expressions}
use Rattle.code_rules.specs.FlatDesign.declared.value_types.ValueType.{ValueType}
use Rattle.code_rules.specs.FlatDesign.declared.value_types.ValueType.TheVariants as type
use Rattle.code_rules.specs.LogicValues.declared.kinds.Value.TheVariants as value
use Rattle.code_rules.specs.ModelRules.Meanings.{is_width}
use Rattle.code_rules.specs.ModelRules.Operators.{option_if, seen_as, evaluated_as, is_integer, is_bool, is_logic, is_time, is_process, is_payload, is_vector_of, one_sign, quantities, bitwise, compared, truths, shifted, multiplied, operands, given, is_bitwise, unary_type, is_number_like, conversion_type, becomes_vector, concat_type, digit_type, is_within, slice_type}
use Rattle.code_rules.specs.ModelRules.Targets.{takes}
use Rattle.code_rules.specs.ModelRules.declared.meanings.ExpressionType.{ExpressionType}
use Rattle.code_rules.specs.ModelRules.declared.meanings.ExpressionType.TheVariants as t
use Rattle.code_rules.specs.Terms.{as_unsigned, taken_as, right_taken, converted_to}
use Rattle.laws_code.proofs.Coded.{same_some, if_some}

-- the type of a value that is read
pub seen_type : (s : ValueType) → evaluated_as (seen_as s) ≡ in_expressions s
seen_type type.Bool = refl
seen_type (type.Int width) = refl
seen_type (type.Uint width) = refl
seen_type type.Logic = refl
seen_type (type.Vector width) = refl
seen_type type.Time = refl
seen_type type.Process = refl
seen_type type.Payload = refl

pub integer_type : (e : ExpressionType) → is_integer e ≡ true → IsInteger (evaluated_as e)
integer_type t.Free h = inl refl
integer_type t.Signed h = inl refl
integer_type t.Unsigned h = inr refl
integer_type other h = cc

pub both_true : (a b : Bool) → (a && b) ≡ true → (a ≡ true) × (b ≡ true)
both_true true b h = (refl, h)
both_true false b h = cc

pub same_width : (m n : ℕ) → (m == n) ≡ true → m ≡ n
same_width m n h = grind (arith, nat_tests)

-- an operand of the first type is taken as the second
abbrev pub Together : ExpressionType → ExpressionType → Type 0
Together t.Free t.Unsigned = ⊤
Together own taken = evaluated_as own ≡ evaluated_as taken

unsigned_has : (c : Context) (x : Term) → HasType c x (type.Int 64) → HasType c (as_unsigned x) (type.Uint 64)
unsigned_has c (code.literal (value.Int width n)) h = (refl, refl)
unsigned_has c (code.literal other) h = (h, (refl, inl (inl refl)), refl)
unsigned_has c other h = (h, (refl, inl (inl refl)), refl)

pub taken_has : (c : Context) (own taken : ExpressionType) (x : Term) → HasType c x (evaluated_as own) → Together own taken → HasType c (taken_as own taken x) (evaluated_as taken)
taken_has c t.Free t.Unsigned x h k = unsigned_has c x h
taken_has c own taken x h k = subst (HasType c x) k h

pub together_same : (e : ExpressionType) → Together e e
together_same t.Free = refl
together_same other = refl

-- integers of one sign
abbrev Signs : ExpressionType → ExpressionType → ExpressionType → Type 0
Signs l r e = Together l e × Together r e × IsInteger (evaluated_as e)

signs : (l r e : ExpressionType) → one_sign l r ≡ Some e → Signs l r e
signs t.Free t.Free e h = subst (Signs t.Free t.Free) (same_some _ e h) (refl, refl, inl refl)
signs t.Free t.Signed e h = subst (Signs t.Free t.Signed) (same_some _ e h) (refl, refl, inl refl)
signs t.Free t.Unsigned e h = subst (Signs t.Free t.Unsigned) (same_some _ e h) (tt, refl, inr refl)
signs t.Signed t.Free e h = subst (Signs t.Signed t.Free) (same_some _ e h) (refl, refl, inl refl)
signs t.Signed t.Signed e h = subst (Signs t.Signed t.Signed) (same_some _ e h) (refl, refl, inl refl)
signs t.Unsigned t.Free e h = subst (Signs t.Unsigned t.Free) (same_some _ e h) (refl, tt, inr refl)
signs t.Unsigned t.Unsigned e h = subst (Signs t.Unsigned t.Unsigned) (same_some _ e h) (refl, refl, inr refl)
signs l r e h = cc

-- two operands of one type
abbrev Alike : (ValueType → Type 0) → ExpressionType → ExpressionType → ExpressionType → Type 0
Alike P l r e = Together l e × Together r e × P (evaluated_as e)

bool_is : (e : ExpressionType) → is_bool e ≡ true → t.Bool ≡ e
bool_is t.Bool h = refl
bool_is other h = cc

logic_is : (e : ExpressionType) → is_logic e ≡ true → t.Logic ≡ e
logic_is t.Logic h = refl
logic_is other h = cc

time_is : (e : ExpressionType) → is_time e ≡ true → t.Time ≡ e
time_is t.Time h = refl
time_is other h = cc

process_is : (e : ExpressionType) → is_process e ≡ true → t.Process ≡ e
process_is t.Process h = refl
process_is other h = cc

payload_is : (e : ExpressionType) → is_payload e ≡ true → t.Payload ≡ e
payload_is t.Payload h = refl
payload_is other h = cc

vector_is : (width : ℕ) (e : ExpressionType) → is_vector_of width e ≡ true → t.Vector width ≡ e
vector_is width (t.Vector other) h = ap t.Vector (same_width width other h)
vector_is width other h = cc

-- where the right operand has to be the same as the left one
same_kind : (P : ValueType → Type 0) (l r e : ExpressionType) (test : Bool) → option_if test l ≡ Some e → (test ≡ true → l ≡ r) → P (evaluated_as l) → Alike P l r e
same_kind P l r e test h f p =
    let k = if_some test l e h in
    let right = λ (x : test ≡ true). subst (λ (y : ExpressionType). Together y l) (f x) (together_same l) in
    subst (Alike P l r) k.1 (together_same l, right k.0, p)

integer_bitwise : (v : ValueType) → IsInteger v → IsBitwise v
integer_bitwise v (inl h) = subst IsBitwise (sym h) refl
integer_bitwise v (inr h) = subst IsBitwise (sym h) refl

integer_compared : (v : ValueType) → IsInteger v → IsCompared v
integer_compared v (inl h) = subst IsCompared (sym h) refl
integer_compared v (inr h) = subst IsCompared (sym h) refl

of_signs : (P : ValueType → Type 0) → ((v : ValueType) → IsInteger v → P v) → (l r e : ExpressionType) → Signs l r e → Alike P l r e
of_signs P f l r e h = (h.0, h.1, f (evaluated_as e) h.2)

bits : (l r e : ExpressionType) → bitwise l r ≡ Some e → Alike IsBitwise l r e
bits t.Free r e h = of_signs IsBitwise integer_bitwise t.Free r e (signs t.Free r e h)
bits t.Signed r e h = of_signs IsBitwise integer_bitwise t.Signed r e (signs t.Signed r e h)
bits t.Unsigned r e h = of_signs IsBitwise integer_bitwise t.Unsigned r e (signs t.Unsigned r e h)
bits t.Bool r e h = same_kind IsBitwise t.Bool r e (is_bool r) h (bool_is r) tt
bits t.Logic r e h = same_kind IsBitwise t.Logic r e (is_logic r) h (logic_is r) tt
bits (t.Vector width) r e h = same_kind IsBitwise (t.Vector width) r e (is_vector_of width r) h (vector_is width r) tt
bits t.Time r e h = cc
bits t.Process r e h = cc
bits t.Payload r e h = cc

compares : (l r e : ExpressionType) → compared l r ≡ Some e → Alike IsCompared l r e
compares t.Free r e h = of_signs IsCompared integer_compared t.Free r e (signs t.Free r e h)
compares t.Signed r e h = of_signs IsCompared integer_compared t.Signed r e (signs t.Signed r e h)
compares t.Unsigned r e h = of_signs IsCompared integer_compared t.Unsigned r e (signs t.Unsigned r e h)
compares t.Bool r e h = same_kind IsCompared t.Bool r e (is_bool r) h (bool_is r) tt
compares t.Logic r e h = same_kind IsCompared t.Logic r e (is_logic r) h (logic_is r) tt
compares (t.Vector width) r e h = same_kind IsCompared (t.Vector width) r e (is_vector_of width r) h (vector_is width r) tt
compares t.Time r e h = same_kind IsCompared t.Time r e (is_time r) h (time_is r) tt
compares t.Process r e h = same_kind IsCompared t.Process r e (is_process r) h (process_is r) tt
compares t.Payload r e h = same_kind IsCompared t.Payload r e (is_payload r) h (payload_is r) tt

quantity : (l r e : ExpressionType) → quantities l r ≡ Some e → Alike IsQuantity l r e
quantity t.Free r e h = of_signs IsQuantity (λ v i. inl i) t.Free r e (signs t.Free r e h)
quantity t.Signed r e h = of_signs IsQuantity (λ v i. inl i) t.Signed r e (signs t.Signed r e h)
quantity t.Unsigned r e h = of_signs IsQuantity (λ v i. inl i) t.Unsigned r e (signs t.Unsigned r e h)
quantity t.Bool r e h = cc
quantity t.Logic r e h = cc
quantity (t.Vector width) r e h = cc
quantity t.Time r e h = same_kind IsQuantity t.Time r e (is_time r) h (time_is r) (inr refl)
quantity t.Process r e h = cc
quantity t.Payload r e h = cc

-- operands of an operator: the right one keeps its own sign as an amount of a shift and a factor of a time
pub record Right (c : Context) (o : BinaryOp) (r e : ExpressionType) : Type 0 where
  pub kind : ValueType
  pub has : (x : Term) → HasType c x (evaluated_as r) → HasType c (taken_as r (right_taken o r e) x) kind
  pub typed : BinaryType o (evaluated_as e) kind (evaluated_as (given o e))

abbrev pub Fit : Context → BinaryOp → ExpressionType → ExpressionType → ExpressionType → Type 0
Fit c o l r e = Together l e × Right c o r e

time_taken : (r : ExpressionType) (x : Term) → taken_as r t.Time x ≡ x
time_taken t.Free x = refl
time_taken other x = refl

module _ (c : Context) where
  fit : (o : BinaryOp) (l r e : ExpressionType) → Together l e → Together r (right_taken o r e) → BinaryType o (evaluated_as e) (evaluated_as (right_taken o r e)) (evaluated_as (given o e)) → Fit c o l r e
  fit o l r e h k typed = (h, record { kind = evaluated_as (right_taken o r e); has = λ x has. taken_has c r (right_taken o r e) x has k; typed = typed })

  truth_fit : (o : BinaryOp) (l r e : ExpressionType) → truths l r ≡ Some e → (Together l t.Bool → Together r t.Bool → Fit c o l r t.Bool) → Fit c o l r e
  truth_fit o l r e h f =
      let k = if_some (is_bool l && is_bool r) t.Bool e h in
      let two = both_true (is_bool l) (is_bool r) k.0 in
      subst (Fit c o l r) k.1
      (f (subst (λ (x : ExpressionType). Together x t.Bool) (bool_is l two.0) refl) (subst (λ (x : ExpressionType). Together x t.Bool) (bool_is r two.1) refl))

  shift_fit : (o : BinaryOp) (l r e : ExpressionType) → shifted l r ≡ Some e → (IsInteger (evaluated_as l) → IsInteger (evaluated_as r) → Fit c o l r l) → Fit c o l r e
  shift_fit o l r e h f =
      let k = if_some (is_integer l && is_integer r) l e h in
      let two = both_true (is_integer l) (is_integer r) k.0 in
      subst (Fit c o l r) k.1 (f (integer_type l two.0) (integer_type r two.1))

  time_product : (r e : ExpressionType) → option_if (is_integer r) t.Time ≡ Some e → Fit c op.Multiply t.Time r e
  time_product r e h =
      let k = if_some (is_integer r) t.Time e h in
      subst (Fit c op.Multiply t.Time r) k.1
      (refl, record { kind = evaluated_as r; has = λ x has. subst (λ y. HasType c y (evaluated_as r)) (sym (time_taken r x)) has; typed = inr (refl, integer_type r k.0, refl) })

  product : (l r e : ExpressionType) → multiplied l r ≡ Some e → Fit c op.Multiply l r e
  product t.Free r e h = let k = signs t.Free r e h in fit op.Multiply t.Free r e k.0 k.1 (inl (k.2, refl, refl))
  product t.Signed r e h = let k = signs t.Signed r e h in fit op.Multiply t.Signed r e k.0 k.1 (inl (k.2, refl, refl))
  product t.Unsigned r e h = let k = signs t.Unsigned r e h in fit op.Multiply t.Unsigned r e k.0 k.1 (inl (k.2, refl, refl))
  product t.Bool r e h = cc
  product t.Logic r e h = cc
  product (t.Vector width) r e h = cc
  product t.Time r e h = time_product r e h
  product t.Process r e h = cc
  product t.Payload r e h = cc

  pub operands_fit : (o : BinaryOp) (l r e : ExpressionType) → operands o l r ≡ Some e → Fit c o l r e
  operands_fit op.OrElse l r e h = truth_fit op.OrElse l r e h (λ a b. fit op.OrElse l r t.Bool a b (refl, refl, refl))
  operands_fit op.AndThen l r e h = truth_fit op.AndThen l r e h (λ a b. fit op.AndThen l r t.Bool a b (refl, refl, refl))
  operands_fit op.BitOr l r e h = let k = bits l r e h in fit op.BitOr l r e k.0 k.1 (k.2, refl, refl)
  operands_fit op.BitXor l r e h = let k = bits l r e h in fit op.BitXor l r e k.0 k.1 (k.2, refl, refl)
  operands_fit op.BitAnd l r e h = let k = bits l r e h in fit op.BitAnd l r e k.0 k.1 (k.2, refl, refl)
  operands_fit op.Equal l r e h = let k = compares l r e h in fit op.Equal l r e k.0 k.1 (k.2, refl, refl)
  operands_fit op.NotEqual l r e h = let k = compares l r e h in fit op.NotEqual l r e k.0 k.1 (k.2, refl, refl)
  operands_fit op.Less l r e h = let k = quantity l r e h in fit op.Less l r e k.0 k.1 (k.2, refl, refl)
  operands_fit op.LessEqual l r e h = let k = quantity l r e h in fit op.LessEqual l r e k.0 k.1 (k.2, refl, refl)
  operands_fit op.Greater l r e h = let k = quantity l r e h in fit op.Greater l r e k.0 k.1 (k.2, refl, refl)
  operands_fit op.GreaterEqual l r e h = let k = quantity l r e h in fit op.GreaterEqual l r e k.0 k.1 (k.2, refl, refl)
  operands_fit op.ShiftLeft l r e h = shift_fit op.ShiftLeft l r e h (λ a b. fit op.ShiftLeft l r l (together_same l) (together_same r) (a, b, refl))
  operands_fit op.ShiftRight l r e h = shift_fit op.ShiftRight l r e h (λ a b. fit op.ShiftRight l r l (together_same l) (together_same r) (a, b, refl))
  operands_fit op.Add l r e h = let k = quantity l r e h in fit op.Add l r e k.0 k.1 (k.2, refl, refl)
  operands_fit op.Subtract l r e h = let k = quantity l r e h in fit op.Subtract l r e k.0 k.1 (k.2, refl, refl)
  operands_fit op.Multiply l r e h = product l r e h
  operands_fit op.Divide l r e h = let k = signs l r e h in fit op.Divide l r e k.0 k.1 (k.2, refl, refl)
  operands_fit op.Remainder l r e h = let k = signs l r e h in fit op.Remainder l r e k.0 k.1 (k.2, refl, refl)

-- an operator on one operand
bitwise_type : (e : ExpressionType) → is_bitwise e ≡ true → IsBitwise (evaluated_as e)
bitwise_type t.Free h = refl
bitwise_type t.Signed h = refl
bitwise_type t.Unsigned h = refl
bitwise_type t.Bool h = tt
bitwise_type t.Logic h = tt
bitwise_type (t.Vector width) h = tt
bitwise_type other h = cc

pub unary_fit : (o : UnaryOp) (e f : ExpressionType) → unary_type o e ≡ Some f → UnaryType o (evaluated_as e) (evaluated_as f)
unary_fit unary_op.Negate e f h =
    let k = if_some (is_integer e) e f h in subst (λ (x : ExpressionType). UnaryType unary_op.Negate (evaluated_as e) (evaluated_as x)) k.1 (integer_type e k.0, refl)
unary_fit unary_op.Not e f h =
    let k = if_some (is_bool e) t.Bool f h in
    (sym (ap evaluated_as (bool_is e k.0)), sym (ap evaluated_as k.1))
unary_fit unary_op.Complement e f h =
    let k = if_some (is_bitwise e) e f h in subst (λ (x : ExpressionType). UnaryType unary_op.Complement (evaluated_as e) (evaluated_as x)) k.1 (bitwise_type e k.0, refl)

-- conversions
abbrev Numbers : ValueType → Type 0
Numbers from = IsInteger from ⊎ IsDigits from

number_like : (e : ExpressionType) → is_number_like e ≡ true → Numbers (evaluated_as e)
number_like t.Free h = inl (inl refl)
number_like t.Signed h = inl (inl refl)
number_like t.Unsigned h = inl (inr refl)
number_like t.Bool h = inr (inl refl)
number_like t.Logic h = inr (inr (inl refl))
number_like (t.Vector width) h = inr (inr (inr (width, refl)))
number_like other h = cc

to_bool : (e : ExpressionType) → (is_integer e || is_logic e) ≡ true → IsInteger (evaluated_as e) ⊎ (evaluated_as e ≡ type.Logic)
to_bool t.Free h = inl (inl refl)
to_bool t.Signed h = inl (inl refl)
to_bool t.Unsigned h = inl (inr refl)
to_bool t.Logic h = inr refl
to_bool other h = cc

abbrev Converts : Conversion → ExpressionType → ExpressionType → Type 0
Converts n e f = ConvertType (converted_to n) (evaluated_as e) × (evaluated_as f ≡ converted_to n)

pub conversion_fit : (n : Conversion) (e f : ExpressionType) → conversion_type n e ≡ Some f → Converts n e f
conversion_fit conversion.Int e f h = let k = if_some (is_number_like e) t.Signed f h in ((refl, number_like e k.0), sym (ap evaluated_as k.1))
conversion_fit conversion.Uint e f h = let k = if_some (is_number_like e) t.Unsigned f h in ((refl, number_like e k.0), sym (ap evaluated_as k.1))
conversion_fit conversion.Bool e f h = let k = if_some (is_integer e || is_logic e) t.Bool f h in (to_bool e k.0, sym (ap evaluated_as k.1))
conversion_fit conversion.Logic e f h = let k = if_some (is_bool e) t.Logic f h in (sym (ap evaluated_as (bool_is e k.0)), sym (ap evaluated_as k.1))

abbrev BecomesVector : ℕ → ValueType → Type 0
BecomesVector width from = IsInteger from ⊎ (((from ≡ type.Logic) × (width ≡ 1)) ⊎ ((other : ℕ) × (from ≡ type.Vector other)))

vector_from : (width : ℕ) (e : ExpressionType) → becomes_vector width e ≡ true → BecomesVector width (evaluated_as e)
vector_from width t.Free h = inl (inl refl)
vector_from width t.Signed h = inl (inl refl)
vector_from width t.Unsigned h = inl (inr refl)
vector_from width t.Logic h = inr (inl (refl, same_width width 1 h))
vector_from width (t.Vector other) h = inr (inr (other, refl))
vector_from width other h = cc

in_range : (width : ℕ) → is_width width ≡ true → (1 ≤ width) × (width ≤ 64)
in_range width h = let two = both_true (nat_le 1 width) (nat_le width 64) h in let low = two.0 in let high = two.1 in (grind (arith, nat_tests), grind (arith, nat_tests))

pub vector_fit : (width : ℕ) (e f : ExpressionType) → option_if (is_width width && becomes_vector width e) (t.Vector width) ≡ Some f
    → ConvertType (type.Vector width) (evaluated_as e) × (evaluated_as f ≡ type.Vector width)
vector_fit width e f h =
    let k = if_some (is_width width && becomes_vector width e) (t.Vector width) f h in
    let two = both_true (is_width width) (becomes_vector width e) k.0 in
    let range = in_range width two.0 in
    ((range.0, range.1, vector_from width e two.1), sym (ap evaluated_as k.1))

-- two vectors together
pub record Joins (u l f : ExpressionType) : Type 0 where
  pub upper : ℕ
  pub lower : ℕ
  pub upper_is : evaluated_as u ≡ type.Vector upper
  pub lower_is : evaluated_as l ≡ type.Vector lower
  pub room : upper + lower ≤ 64
  pub whole : evaluated_as f ≡ type.Vector (upper + lower)

at_most : (n : ℕ) → nat_le n 64 ≡ true → n ≤ 64
at_most n h = grind (arith, nat_tests)

pub concat_fit : (u l f : ExpressionType) → concat_type u l ≡ Some f → Joins u l f
concat_fit (t.Vector upper) (t.Vector lower) f h =
    let k = if_some (nat_le (upper + lower) 64) (t.Vector (upper + lower)) f h in
    record { upper = upper; lower = lower; upper_is = refl; lower_is = refl; room = at_most (upper + lower) k.0; whole = sym (ap evaluated_as k.1) }
concat_fit (t.Vector upper) other f h = cc
concat_fit other l f h = cc

-- digits
pub digit_fit : (e f : ExpressionType) → digit_type e ≡ Some f → DigitType (evaluated_as e) (evaluated_as f)
digit_fit t.Free f h = (refl, sym (ap evaluated_as (same_some t.Bool f h)))
digit_fit t.Signed f h = (refl, sym (ap evaluated_as (same_some t.Bool f h)))
digit_fit t.Unsigned f h = (refl, sym (ap evaluated_as (same_some t.Bool f h)))
digit_fit (t.Vector width) f h = sym (ap evaluated_as (same_some t.Logic f h))
digit_fit other f h = cc

bounds : (high low count : ℕ) → is_within high low count ≡ true → (low ≤ high) × (high < count)
bounds high low count h = let two = both_true (nat_le low high) (nat_lt high count) h in let first = two.0 in let second = two.1 in (grind (arith, nat_tests), grind (arith, nat_tests))

number_digits : (high low : ℕ) (f : ExpressionType) → option_if (is_within high low 64) t.Unsigned ≡ Some f → (low ≤ high) × (high < 64) × (evaluated_as f ≡ type.Uint 64)
number_digits high low f h =
    let k = if_some (is_within high low 64) t.Unsigned f h in let b = bounds high low 64 k.0 in (b.0, b.1, sym (ap evaluated_as k.1))

pub slice_fit : (high low : ℕ) (e f : ExpressionType) → slice_type high low e ≡ Some f → DigitsType (evaluated_as e) high low (evaluated_as f)
slice_fit high low t.Free f h = let k = number_digits high low f h in (refl, k.0, k.1, k.2)
slice_fit high low t.Signed f h = let k = number_digits high low f h in (refl, k.0, k.1, k.2)
slice_fit high low t.Unsigned f h = let k = number_digits high low f h in (refl, k.0, k.1, k.2)
slice_fit high low (t.Vector width) f h =
    let k = if_some (is_within high low width) (t.Vector ((high - low) + 1)) f h in
    let b = bounds high low width k.0 in
    (b.0, b.1, sym (ap evaluated_as k.1))
slice_fit high low other f h = cc

-- targets
vector_in : (width : ℕ) (e : ExpressionType) → is_vector_of width e ≡ true → evaluated_as e ≡ type.Vector width
vector_in width e h = sym (ap evaluated_as (vector_is width e h))

pub takes_fit : (target : ValueType) (e : ExpressionType) → takes target e ≡ true → FitsIn target (evaluated_as e)
takes_fit type.Bool e h = sym (ap evaluated_as (bool_is e h))
takes_fit (type.Int width) e h = integer_type e h
takes_fit (type.Uint width) e h = integer_type e h
takes_fit type.Logic e h = sym (ap evaluated_as (logic_is e h))
takes_fit (type.Vector width) e h = vector_in width e h
takes_fit type.Time e h = sym (ap evaluated_as (time_is e h))
takes_fit type.Process e h = sym (ap evaluated_as (process_is e h))
takes_fit type.Payload e h = sym (ap evaluated_as (payload_is e h))

pub bool_type : (e : ExpressionType) → is_bool e ≡ true → evaluated_as e ≡ type.Bool
bool_type e h = sym (ap evaluated_as (bool_is e h))

pub time_type : (e : ExpressionType) → is_time e ≡ true → evaluated_as e ≡ type.Time
time_type e h = sym (ap evaluated_as (time_is e h))
