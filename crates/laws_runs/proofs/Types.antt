-- What operators make of operands of their types.
use Rattle.std.proofs.Common.{◌≡◌, ◌≤◌, ◌+◌, ◌-◌, ℕ, zero, suc, Bool, true, false, cond, List, [], ◌∷◌, ◌++◌, map, take, drop, length, replicate, slice_get, Option, Some, None, refl, sym, ap, ◌∙◌, subst, arith, true≢false, ⊎_elim}
use Rattle.std.specs.Prelude.{◌⊎◌, Result, Ok, Err, IfOk, nat_lt, bit_and, bit_or, bit_xor, ◌&&◌, ◌||◌}
use Rattle.std.proofs.lemmas.List.{length-take, length-drop, length-map, length-append}
use Rattle.sim_model.specs.LogicValues.declared.kinds.Digit.{Digit}
use Rattle.sim_model.specs.LogicValues.declared.kinds.Digit.TheVariants as digit
use Rattle.sim_model.specs.LogicValues.declared.kinds.Value.{Value}
use Rattle.sim_model.specs.LogicValues.declared.kinds.Value.TheVariants as value
use Rattle.sim_model.specs.LogicValues.declared.planes.Lv.{Lv}
use Rattle.sim_model.specs.LogicValues.Digits.{digits_in}
use Rattle.sim_model.specs.LogicValues.Planes.{clipped}
use Rattle.sim_model.specs.LogicValues.Vectors.{digit_by_digit, binary_digits, resized}
use Rattle.sim_model.specs.LogicValues.LogicTables.{not_of, and_of, or_of, xor_of}
use Rattle.sim_model.specs.LogicValues.Integers.{quotient_of, remainder_of}
use Rattle.sim_model.specs.ModelTree.declared.expressions.UnaryOp.{UnaryOp}
use Rattle.sim_model.specs.ModelTree.declared.expressions.UnaryOp.TheVariants as unary_op
use Rattle.sim_model.specs.ModelTree.declared.expressions.BinaryOp.{BinaryOp}
use Rattle.sim_model.specs.ModelTree.declared.expressions.BinaryOp.TheVariants as op
use Rattle.sim_model.specs.FlatDesign.ValueTypes.{type_of_value, in_expressions}
use Rattle.sim_model.specs.FlatDesign.Typed.{IsInteger, IsBitwise, IsQuantity, UnaryType, BinaryType, DigitType, DigitsType, ConvertType, FitsIn}
use Rattle.sim_model.specs.FlatDesign.declared.value_types.ValueType.{ValueType}
use Rattle.sim_model.specs.FlatDesign.declared.value_types.ValueType.TheVariants as type
use Rattle.sim_model.specs.FlatDesign.declared.faults.RunFault.{RunFault}
use Rattle.sim_model.specs.FlatDesign.declared.faults.RunFault.TheVariants as fault
use Rattle.sim_model.specs.Values.{on_ok, bits, moment, digit_list, widened, cut_to, sign_of, signed_as, bool_value, vector, time_within, time_value, complement, unary, bitwise, differ, sum, difference, product, unless_zero, binary, decides, index_within, digit_or_x, digit_at, digits_between, digits_from, converted, joined_digits, truth}
use Rattle.laws_runs.specs.Contents.{IsOf}

-- ---- vectors

width_of : ValueType → ℕ
width_of type.Bool = 0
width_of (type.Int width) = width
width_of (type.Uint width) = width
width_of type.Logic = 0
width_of (type.Vector width) = width
width_of type.Time = 0
width_of type.Process = 0
width_of type.Payload = 0

clipped_length : (ds : List Digit) → 1 ≤ length ds → length ds ≤ 64 → length (clipped ds) ≡ length ds
clipped_length [] some most = absurd (omega (arith, some))
clipped_length (d ∷ ds) some most = omega (arith, length-take 63 ds, most)

vector_type : (ds : List Digit) → 1 ≤ length ds → length ds ≤ 64 → type_of_value (vector ds) ≡ type.Vector (length ds)
vector_type ds some most = ap type.Vector (clipped_length ds some most)

digits_length : (n unknown ones : ℕ) → length (digits_in n unknown ones) ≡ n
digits_length zero unknown ones = refl
digits_length (suc n) unknown ones = ap suc (digits_length n _ _)

-- a vector of this many digits: from 1 to 64
pub record IsVector (v : Value) (width : ℕ) : Type 0 where
  pub some : 1 ≤ width
  pub most : width ≤ 64
  pub digits_of : length (digit_list v) ≡ width

lv_vector : (v : Lv) (width : ℕ) → v.width ≡ width → IsVector (value.Vector v) width
lv_vector v width e = record {
  some = subst (λ n. 1 ≤ n) e v.not_empty;
  most = subst (λ n. n ≤ 64) e v.at_most_64;
  digits_of = digits_length v.width v.unknown v.ones ∙ e;
}

pub is-vector : (v : Value) (width : ℕ) → IsOf (type.Vector width) v → IsVector v width
unfolding width_of
is-vector (value.Bool b) width e = cc
is-vector (value.Int w b) width e = cc
is-vector (value.Uint w b) width e = cc
is-vector (value.Logic d) width e = cc
is-vector (value.Vector v) width e = lv_vector v width (ap width_of e)
is-vector (value.Moment t) width e = cc
is-vector (value.Handle h) width e = cc
is-vector (value.Pay p) width e = cc

paired_length : (f : Digit → Digit → Digit) (ds es : List Digit) → length ds ≡ length es → length (digit_by_digit f ds es) ≡ length ds
paired_length f [] es e = refl
paired_length f (d ∷ ds) [] e = cc
paired_length f (d ∷ ds) (x ∷ es) e = ap suc (paired_length f ds es (omega (arith, e)))

binary_length : (width n : ℕ) → length (binary_digits width n) ≡ width
binary_length zero n = refl
binary_length (suc width) n = ap suc (binary_length width _)

replicate_length : {A : Type 0} (n : ℕ) (x : A) → length (replicate n x) ≡ n
replicate_length zero x = refl
replicate_length (suc n) x = ap suc (replicate_length n x)

resized_length : (width : ℕ) (ds : List Digit) → length (resized width ds) ≡ width
resized_length width ds =
    omega (arith, length-take width (ds ++ replicate width digit.Zero), length-append ds (replicate width digit.Zero), replicate_length width digit.Zero)

vector_of : (ds : List Digit) (width : ℕ) → length ds ≡ width → 1 ≤ width → width ≤ 64 → IsOf (type.Vector width) (vector ds)
vector_of ds width e some most = vector_type ds (omega (arith, e, some)) (omega (arith, e, most)) ∙ ap type.Vector e

-- ---- a value that is read, and one that is cut

pub widened-type : (v : Value) → type_of_value (widened v) ≡ in_expressions (type_of_value v)
widened-type (value.Bool b) = refl
widened-type (value.Int w b) = refl
widened-type (value.Uint w b) = refl
widened-type (value.Logic d) = refl
widened-type (value.Vector v) = refl
widened-type (value.Moment t) = refl
widened-type (value.Handle h) = refl
widened-type (value.Pay p) = refl

pub cut-type : (t s : ValueType) (v : Value) → FitsIn t s → IsOf s v → IsOf t (cut_to t v)
cut-type type.Bool s v f e = e ∙ f
cut-type (type.Int width) s v f e = refl
cut-type (type.Uint width) s v f e = refl
cut-type type.Logic s v f e = e ∙ f
cut-type (type.Vector width) s v f e = e ∙ f
cut-type type.Time s v f e = e ∙ f
cut-type type.Process s v f e = e ∙ f
cut-type type.Payload s v f e = e ∙ f

-- ---- operators, one lemma for each

integer_type : (s : ValueType) → IsInteger s → (n : ℕ) → type_of_value (signed_as (sign_of s) n) ≡ s
integer_type s i n = ⊎_elim (λ e. subst (λ s. type_of_value (signed_as (sign_of s) n) ≡ s) (sym e) refl) (λ e. subst (λ s. type_of_value (signed_as (sign_of s) n) ≡ s) (sym e) refl) i

complement_type : (s : ValueType) (v : Value) → IsBitwise s → IsOf s v → IsOf s (complement s v)
complement_type type.Bool v b e = refl
complement_type (type.Int width) v b e = ap type.Int (sym b)
complement_type (type.Uint width) v b e = ap type.Uint (sym b)
complement_type type.Logic v b e = refl
complement_type (type.Vector width) v b e =
    let x = is-vector v width e in
    vector_of (map not_of (digit_list v)) width (length-map (digit_list v) not_of ∙ x.digits_of) x.some x.most
complement_type type.Time v b e = absurd b
complement_type type.Process v b e = absurd b
complement_type type.Payload v b e = absurd b

pub unary-type : (o : UnaryOp) (s t : ValueType) (v : Value) → UnaryType o s t → IsOf s v → IsOf t (unary o s v)
unary-type unary_op.Negate s t v u e = integer_type s u.0 _ ∙ sym u.1
unary-type unary_op.Not s t v u e = sym u.1
unary-type unary_op.Complement s t v u e = complement_type s v u.0 e ∙ sym u.1

bitwise_type : (f : Bool → Bool → Bool) (g : ℕ → ℕ → ℕ) (h : Digit → Digit → Digit) (s : ValueType) (x y : Value) → IsBitwise s → IsOf s x → IsOf s y → IsOf s (bitwise f g h s x y)
bitwise_type f g h type.Bool x y b e k = refl
bitwise_type f g h (type.Int width) x y b e k = ap type.Int (sym b)
bitwise_type f g h (type.Uint width) x y b e k = ap type.Uint (sym b)
bitwise_type f g h type.Logic x y b e k = refl
bitwise_type f g h (type.Vector width) x y b e k =
    let l = is-vector x width e in
    let r = is-vector y width k in
    vector_of (digit_by_digit h (digit_list x) (digit_list y)) width (paired_length h (digit_list x) (digit_list y) (l.digits_of ∙ sym r.digits_of) ∙ l.digits_of) l.some l.most
bitwise_type f g h type.Time x y b e k = absurd b
bitwise_type f g h type.Process x y b e k = absurd b
bitwise_type f g h type.Payload x y b e k = absurd b

-- on from a value, whichever it is; and a value or a fault by a test
pub if-any : {A : Type 0} (P : Value → Type 0) (m : Result A RunFault) (f : A → Result Value RunFault) → ((x : A) → IfOk (f x) P) → IfOk (on_ok m f) P
if-any P (Ok x) f h = h x
if-any P (Err e) f h = tt

pub if-is : {A : Type 0} (Q : A → Type 0) (P : Value → Type 0) (m : Result A RunFault) (f : A → Result Value RunFault) → IfOk m Q → ((x : A) → Q x → IfOk (f x) P) → IfOk (on_ok m f) P
if-is Q P (Ok x) f q h = h x q
if-is Q P (Err e) f q h = tt

time_type : (n : ℕ) → IfOk (time_value n) (IsOf type.Time)
time_type n = if-any (IsOf type.Time) (time_within n) _ (λ u. refl)

sum_type : (s : ValueType) (x y : Value) → IsQuantity s → IfOk (sum s x y) (IsOf s)
sum_type s x y q = ⊎_elim (⊎_elim (λ e. subst (λ s. IfOk (sum s x y) (IsOf s)) (sym e) refl) (λ e. subst (λ s. IfOk (sum s x y) (IsOf s)) (sym e) refl)) (λ e. subst (λ s. IfOk (sum s x y) (IsOf s)) (sym e) (time_type _)) q

time_less_type : (b : Bool) (n : ℕ) → IfOk (cond b (Err fault.TimeOverflow) (Ok (value.Moment n))) (IsOf type.Time)
time_less_type true n = tt
time_less_type false n = refl

difference_type : (s : ValueType) (x y : Value) → IsQuantity s → IfOk (difference s x y) (IsOf s)
difference_type s x y q =
    ⊎_elim (⊎_elim (λ e. subst (λ s. IfOk (difference s x y) (IsOf s)) (sym e) refl) (λ e. subst (λ s. IfOk (difference s x y) (IsOf s)) (sym e) refl))
    (λ e. subst (λ s. IfOk (difference s x y) (IsOf s)) (sym e) (time_less_type (nat_lt (moment x) (moment y)) (moment x - moment y))) q

product_type : (s u t : ValueType) (x y : Value) → BinaryType op.Multiply s u t → IfOk (product s x y) (IsOf t)
product_type s u t x y b =
    ⊎_elim
    (λ same. subst (λ t. IfOk (product s x y) (IsOf t)) (sym same.2)
    (⊎_elim (λ e. subst (λ s. IfOk (product s x y) (IsOf s)) (sym e) refl) (λ e. subst (λ s. IfOk (product s x y) (IsOf s)) (sym e) refl) same.0))
    (λ time. subst (λ t. IfOk (product s x y) (IsOf t)) (sym time.2) (subst (λ s. IfOk (product s x y) (IsOf type.Time)) (sym time.0) (time_type _))) b

divided_type : (s : ValueType) (o : Option ℕ) → IsInteger s → IfOk (unless_zero (sign_of s) o) (IsOf s)
divided_type s None i = tt
divided_type s (Some n) i = integer_type s i n

pub binary-type : (o : BinaryOp) (s u t : ValueType) (x y : Value) → BinaryType o s u t → IsOf s x → IsOf u y → IfOk (binary o s x y) (IsOf t)
binary-type op.OrElse s u t x y b e k = sym b.2
binary-type op.AndThen s u t x y b e k = sym b.2
binary-type op.BitOr s u t x y b e k = bitwise_type (λ a b. a || b) bit_or or_of s x y b.0 e (k ∙ b.1) ∙ sym b.2
binary-type op.BitXor s u t x y b e k = bitwise_type differ bit_xor xor_of s x y b.0 e (k ∙ b.1) ∙ sym b.2
binary-type op.BitAnd s u t x y b e k = bitwise_type (λ a b. a && b) bit_and and_of s x y b.0 e (k ∙ b.1) ∙ sym b.2
binary-type op.Equal s u t x y b e k = sym b.2
binary-type op.NotEqual s u t x y b e k = sym b.2
binary-type op.Less s u t x y b e k = sym b.2
binary-type op.LessEqual s u t x y b e k = sym b.2
binary-type op.Greater s u t x y b e k = sym b.2
binary-type op.GreaterEqual s u t x y b e k = sym b.2
binary-type op.ShiftLeft s u t x y b e k = integer_type s b.0 _ ∙ sym b.2
binary-type op.ShiftRight s u t x y b e k = integer_type s b.0 _ ∙ sym b.2
binary-type op.Add s u t x y b e k = subst (λ t. IfOk (sum s x y) (IsOf t)) (sym b.2) (sum_type s x y b.0)
binary-type op.Subtract s u t x y b e k = subst (λ t. IfOk (difference s x y) (IsOf t)) (sym b.2) (difference_type s x y b.0)
binary-type op.Multiply s u t x y b e k = product_type s u t x y b
binary-type op.Divide s u t x y b e k = let n = quotient_of (sign_of s) (bits x) (bits y) in subst (λ t. IfOk (unless_zero (sign_of s) n) (IsOf t)) (sym b.2) (divided_type s n b.0)
binary-type op.Remainder s u t x y b e k = let n = remainder_of (sign_of s) (bits x) (bits y) in subst (λ t. IfOk (unless_zero (sign_of s) n) (IsOf t)) (sym b.2) (divided_type s n b.0)

-- where the left operand decides, the result is a truth value
pub decided-type : (o : BinaryOp) (s u t : ValueType) (x : Value) → BinaryType o s u t → decides o x ≡ true → IsOf t (bool_value (truth x))
decided-type op.OrElse s u t x b e = sym b.2
decided-type op.AndThen s u t x b e = sym b.2
decided-type op.BitOr s u t x b e = absurd (true≢false (sym e))
decided-type op.BitXor s u t x b e = absurd (true≢false (sym e))
decided-type op.BitAnd s u t x b e = absurd (true≢false (sym e))
decided-type op.Equal s u t x b e = absurd (true≢false (sym e))
decided-type op.NotEqual s u t x b e = absurd (true≢false (sym e))
decided-type op.Less s u t x b e = absurd (true≢false (sym e))
decided-type op.LessEqual s u t x b e = absurd (true≢false (sym e))
decided-type op.Greater s u t x b e = absurd (true≢false (sym e))
decided-type op.GreaterEqual s u t x b e = absurd (true≢false (sym e))
decided-type op.ShiftLeft s u t x b e = absurd (true≢false (sym e))
decided-type op.ShiftRight s u t x b e = absurd (true≢false (sym e))
decided-type op.Add s u t x b e = absurd (true≢false (sym e))
decided-type op.Subtract s u t x b e = absurd (true≢false (sym e))
decided-type op.Multiply s u t x b e = absurd (true≢false (sym e))
decided-type op.Divide s u t x b e = absurd (true≢false (sym e))
decided-type op.Remainder s u t x b e = absurd (true≢false (sym e))

-- ---- digits

one_type : (o : Option Digit) → IsOf type.Logic (digit_or_x o)
one_type None = refl
one_type (Some d) = refl

pub digit-type : (s t : ValueType) (v : Value) (i : ℕ) → DigitType s t → IfOk (digit_at s v i) (IsOf t)
digit-type type.Bool t v i d = absurd d
digit-type (type.Int width) t v i d = if-any (IsOf t) (index_within i 64) _ (λ n. sym d.1)
digit-type (type.Uint width) t v i d = if-any (IsOf t) (index_within i 64) _ (λ n. sym d.1)
digit-type type.Logic t v i d = absurd d
digit-type (type.Vector width) t v i d = if-any (IsOf t) (index_within i width) _ (λ n. one_type (slice_get (digit_list v) n) ∙ sym d)
digit-type type.Time t v i d = absurd d
digit-type type.Process t v i d = absurd d
digit-type type.Payload t v i d = absurd d

pub digits-type : (s t : ValueType) (v : Value) (high low : ℕ) → DigitsType s high low t → IsOf s v → IsOf t (digits_between s v high low)
digits-type type.Bool t v high low d e = absurd d
digits-type (type.Int width) t v high low d e = sym d.3
digits-type (type.Uint width) t v high low d e = sym d.3
digits-type type.Logic t v high low d e = absurd d
digits-type (type.Vector width) t v high low d e =
    let x = is-vector v width e in
    let up = d.0 in
    let within = d.1 in
    let most = x.most in
    let many = x.digits_of in
    vector_of (take (high + 1 - low) (drop low (digit_list v))) ((high - low) + 1)
    (omega (arith, length-take (high + 1 - low) (drop low (digit_list v)), length-drop low (digit_list v), up, within, many)) (omega arith) (omega (arith, up, within, most))
    ∙ sym d.2
digits-type type.Time t v high low d e = absurd d
digits-type type.Process t v high low d e = absurd d
digits-type type.Payload t v high low d e = absurd d

-- ---- conversions

digits_many : (width : ℕ) (from : ValueType) (v : Value) → IsInteger from ⊎ (((from ≡ type.Logic) × (width ≡ 1)) ⊎ ((other : ℕ) × (from ≡ type.Vector other))) → length (digits_from width from v) ≡ width
digits_many width from v c =
    ⊎_elim
    (⊎_elim (λ e. subst (λ f. length (digits_from width f v) ≡ width) (sym e) (binary_length width _)) (λ e. subst (λ f. length (digits_from width f v) ≡ width) (sym e) (binary_length width _)))
    (⊎_elim (λ e. subst (λ f. length (digits_from width f v) ≡ width) (sym e.0) (resized_length width _)) (λ e. subst (λ f. length (digits_from width f v) ≡ width) (sym e.1) (resized_length width _))) c

pub convert-type : (to from : ValueType) (v : Value) → ConvertType to from → IsOf to (converted to from v)
convert-type type.Bool from v c = refl
convert-type (type.Int width) from v c = ap type.Int (sym c.0)
convert-type (type.Uint width) from v c = ap type.Uint (sym c.0)
convert-type type.Logic from v c = refl
convert-type (type.Vector width) from v c = vector_of (digits_from width from v) width (digits_many width from v c.2) c.0 c.1
convert-type type.Time from v c = absurd c
convert-type type.Process from v c = absurd c
convert-type type.Payload from v c = absurd c

pub concat-type : (m n : ℕ) (x y : Value) → IsOf (type.Vector m) x → IsOf (type.Vector n) y → m + n ≤ 64 → IsOf (type.Vector (m + n)) (joined_digits x y)
concat-type m n x y e k most =
    let u = is-vector x m e in
    let l = is-vector y n k in
    let some = u.some in
    let many = u.digits_of in
    let few = l.digits_of in
    vector_of (digit_list y ++ digit_list x) (m + n) (omega (arith, length-append (digit_list y) (digit_list x), many, few)) (omega (arith, some)) most
