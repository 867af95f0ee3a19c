-- The values of a tick's expressions: its count is compared with 0, and lowered by 1.
use Rattle.std.proofs.Common.{◌≡◌, ◌^◌, ◌<◌, ℕ, suc, Bool, true, false, pos, Some, refl, ap, ◌∙◌, arith}
use Rattle.std.specs.Prelude.{Result, Ok, slice_get, unwrap_or, int_lt}
use Rattle.std.proofs.lemmas.Int.{ints}
use Rattle.laws_runs.specs.LogicValues.declared.kinds.Sign.TheVariants as sign
use Rattle.laws_runs.specs.LogicValues.declared.kinds.Value.{Value}
use Rattle.laws_runs.specs.LogicValues.declared.kinds.Value.TheVariants as value
use Rattle.laws_runs.specs.LogicValues.Integers.{is_less, difference_of, cut_of}
use Rattle.laws_runs.specs.ModelTree.declared.expressions.BinaryOp.TheVariants as op
use Rattle.laws_runs.specs.FlatDesign.Code as code
use Rattle.laws_runs.specs.FlatDesign.declared.value_types.ValueType.TheVariants as type
use Rattle.laws_runs.specs.FlatDesign.declared.faults.RunFault.{RunFault}
use Rattle.laws_runs.specs.SimModel.Values.{on_ok, bits, widened, bool_value, unsigned, cut_to}
use Rattle.laws_runs.specs.SimModel.Residual.{Frame, Residual, innermost}
use Rattle.laws_runs.specs.SimModel.Configuration.{Config, Instance}
use Rattle.laws_runs.specs.SimModel.Reading.{here, locals_of, val}
use Rattle.laws_clocked.specs.Ticks.{Tick, count_of}

-- ---- numbers

pub bits-widened : (v : Value) → bits (widened v) ≡ bits v
bits-widened (value.Bool b) = refl
bits-widened (value.Int width n) = refl
bits-widened (value.Uint width n) = refl
bits-widened (value.Logic d) = refl
bits-widened (value.Vector v) = refl
bits-widened (value.Moment t) = refl
bits-widened (value.Handle h) = refl
bits-widened (value.Pay p) = refl

none_less : (n : ℕ) → n ≡ 0 → is_less sign.Unsigned 0 n ≡ false
none_less n is = ap (is_less sign.Unsigned 0) is

some_less : (n : ℕ) → 0 < n → is_less sign.Unsigned 0 n ≡ true
some_less n h = by (int_lt (pos 0) (pos n)) refl
  where
    by : (b : Bool) → int_lt (pos 0) (pos n) ≡ b → is_less sign.Unsigned 0 n ≡ true
    by true e = e
    by false e = absurd (omega (arith, ints, e, h))

-- a number of 32 bits stays, and so does it where it is lowered
pub small-bits : (n : ℕ) → n < 2 ^ 32 → bits (cut_to (type.Uint 32) (value.Uint 64 n)) ≡ n
small-bits n small = omega (arith, small)

pub cut-bits : (v : Value) → bits v < 2 ^ 32 → bits (cut_to (type.Uint 32) v) ≡ bits v
cut-bits v small = omega (arith, small)

less_one : (n : ℕ) → suc n < 2 ^ 32 → cut_of sign.Unsigned 32 (difference_of (suc n) 1) ≡ n
less_one n small = omega (arith, small)

pub lowered-bits : (n k one_ : ℕ) → n ≡ suc k → one_ ≡ 1 → n < 2 ^ 32 → bits (cut_to (type.Uint 32) (unsigned (difference_of n one_))) ≡ k
lowered-bits n k one_ is unit small = ap (λ m. cut_of sign.Unsigned 32 (difference_of n m)) unit ∙ ap (λ m. cut_of sign.Unsigned 32 (difference_of m 1)) is ∙ less_one k (omega (arith, is, small))

-- ---- expressions, where the innermost call has this frame

abbrev answers : Value → Result Value RunFault
answers v = Ok v

module _ (c : Config) (p : ℕ) (i : Instance) (r : Residual) (t : Tick) (frame : Frame) (v : Value) (within : innermost r ≡ Some frame) (counts : slice_get frame.locals t.local ≡ Some v) where
  pub count-is : val (here c p i r) (count_of t) ≡ Ok (widened v)
  count-is = ap (λ o. answers (widened (unwrap_or (slice_get (locals_of o) t.local) (value.Bool false)))) within ∙ ap (λ o. answers (widened (unwrap_or o (value.Bool false)))) counts

  module _ (width : ℕ) (k : Value) where
    pub compares : val (here c p i r) (code.binary op.Greater (type.Uint width) (count_of t) (code.literal k)) ≡ Ok (bool_value (is_less sign.Unsigned (bits k) (bits v)))
    compares = ap (λ (m : Result Value RunFault). on_ok m (λ x. Ok (bool_value (is_less sign.Unsigned (bits k) (bits x))))) count-is ∙ ap (λ n. answers (bool_value (is_less sign.Unsigned (bits k) n))) (bits-widened v)

    pub goes-on : bits k ≡ 0 → 0 < bits v → val (here c p i r) (code.binary op.Greater (type.Uint width) (count_of t) (code.literal k)) ≡ Ok (bool_value true)
    goes-on is more = compares ∙ ap (λ n. answers (bool_value (is_less sign.Unsigned n (bits v)))) is ∙ ap (λ b. answers (bool_value b)) (some_less (bits v) more)

    pub lowered : val (here c p i r) (code.binary op.Subtract (type.Uint width) (count_of t) (code.literal k)) ≡ Ok (unsigned (difference_of (bits v) (bits k)))
    lowered = ap (λ (m : Result Value RunFault). on_ok m (λ x. Ok (unsigned (difference_of (bits x) (bits k))))) count-is ∙ ap (λ n. answers (unsigned (difference_of n (bits k)))) (bits-widened v)
