-- No time is past the range and inexact: one that is no whole number of resolutions has a unit below the resolution.
use Rattle.std.proofs.Common.{◌≡◌, ℕ, ◌+◌, ◌-◌, ◌*◌, ◌/◌, ◌%◌, ◌^◌, ◌<◌, ◌≤◌, Bool, true, false, Option, Some, None, Result, Ok, Err, refl, sym, ap, ◌∙◌, ⊎_elim, true≢false, mul_assoc, lt_of_le_of_lt, le_of_lt, arith}
use Rattle.std.proofs.Math.Nat.{mul-mod_left, mul-le-mul_left, mul-lt-mul_of_pos_right, pow-le-pow_right, one-le-pow}
use Rattle.std.proofs.lemmas.Bool.{cases_lt}
use Rattle.std.proofs.lemmas.Nat.{pow-add}
use Rattle.model_tree.specs.SimTime.Times.{time_of, femtoseconds_in, femtoseconds_of, within_range, whole_ticks, ticks_of}
use Rattle.model_tree.specs.SimTime.declared.moments.Resolution.{Resolution}
use Rattle.model_tree.specs.SimTime.declared.moments.Time.{Time}
use Rattle.model_tree.specs.SimTime.declared.moments.Unit.{Unit as TimeUnit}
use Rattle.model_tree.specs.SimTime.declared.moments.Unit.TheVariants as unit
use Rattle.model_tree.specs.SimTime.declared.moments.UnitStop.{UnitStop}
use Rattle.model_tree.specs.SimTime.declared.moments.UnitStop.TheVariants as stop

abbrev is_inexact : Result Time UnitStop → Bool
is_inexact (Ok t) = false
is_inexact (Err stop.Inexact) = true
is_inexact (Err stop.Range) = false

within : (t : Option Time) → is_inexact (within_range t) ≡ false
within None = refl
within (Some t) = refl

-- a unit of so many powers of ten, where the resolution has no more
exact : (n a p : ℕ) → p ≤ a → whole_ticks ((n * 10 ^ a) % 10 ^ p) (n * 10 ^ a) (10 ^ p) ≡ within_range (time_of (n * 10 ^ a / 10 ^ p))
exact n a p few =
    let powers : a ≡ (a - p) + p = omega (arith, few) in
    let split : n * 10 ^ a ≡ n * 10 ^ (a - p) * 10 ^ p = ap (λ k. n * 10 ^ k) powers ∙ ap (λ k. n * k) (pow-add 10 (a - p) p) ∙ sym (mul_assoc n (10 ^ (a - p)) (10 ^ p)) in
    ap (λ rest. whole_ticks rest (n * 10 ^ a) (10 ^ p)) (ap (λ k. k % 10 ^ p) split ∙ mul-mod_left (n * 10 ^ (a - p)) (10 ^ p))

below : (n a p : ℕ) → n < 2 ^ 64 → whole_ticks ((n * 10 ^ a) % 10 ^ p) (n * 10 ^ a) (10 ^ p) ≡ Err stop.Inexact → n * 10 ^ a < 2 ^ 64 * 10 ^ p
below n a p small e =
    ⊎_elim
    (λ (more : a < p).
    lt_of_le_of_lt (mul-le-mul_left n (pow-le-pow_right {n = 10} (omega arith) (le_of_lt more))) (mul-lt-mul_of_pos_right small (one-le-pow p 10 (omega arith))))
    (λ (few : p ≤ a). absurd (true≢false (sym (ap is_inexact e) ∙ ap is_inexact (exact n a p few) ∙ within (time_of (n * 10 ^ a / 10 ^ p)))))
    (cases_lt a p)

pub inexact_below : (r : Resolution) (n : ℕ) (u : TimeUnit) → n < 2 ^ 64 → ticks_of n u r ≡ Err stop.Inexact → n * femtoseconds_in u < 2 ^ 64 * femtoseconds_of r
inexact_below r n unit.Fs small e = below n 0 r.power small e
inexact_below r n unit.Ps small e = below n 3 r.power small e
inexact_below r n unit.Ns small e = below n 6 r.power small e
inexact_below r n unit.Us small e = below n 9 r.power small e
inexact_below r n unit.Ms small e = below n 12 r.power small e
inexact_below r n unit.S small e = below n 15 r.power small e
