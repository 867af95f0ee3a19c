use Rattle.std.proofs.Common.{ℕ, zero, suc, ◌≡◌, ◌+◌, ◌*◌, ◌/◌, ◌%◌, ◌^◌, ◌<◌, ◌≤◌, List, [], ◌∷◌, length, refl, subst, sym, ap, ◌∙◌, arith}
use Rattle.std.proofs.Math.Nat.{pow-suc, mul_comm}
use Rattle.std.proofs.lemmas.List.{take_all}
use Rattle.std.specs.Coded.{le_prop}
use Rattle.logic_values.specs.declared.kinds.Digit.{Digit}
use Rattle.logic_values.specs.declared.kinds.Digit.TheVariants.{Zero, One, Z, X}
use Rattle.logic_values.specs.declared.planes.Lv.{Lv}
use Rattle.logic_values.specs.Digits.{digit_of_bits, digits_in, digits}
use Rattle.logic_values.specs.Planes.{unknown_bit, one_bit, unknown_bit-le, one_bit-le, plane_of, clipped, lv_of}

-- a vector by its parts
abbrev made : (n o u : ℕ) → 1 ≤ n → n ≤ 64 → o < 2 ^ n → u < 2 ^ n → Lv
made n o u p q r s = record { width = n; ones = o; unknown = u; not_empty = p; at_most_64 = q; ones_fit = r; unknown_fit = s }

-- the proofs of its bounds do not tell two vectors apart
same_made : (n o u : ℕ) (p p' : 1 ≤ n) (q q' : n ≤ 64) (r r' : o < 2 ^ n) (s s' : u < 2 ^ n) → made n o u p q r s ≡ made n o u p' q' r' s'
same_made n o u p p' q q' r r' s s' =
    ap (λ (x : 1 ≤ n). made n o u x q r s) (le_prop p p')
    ∙ ap (λ (x : n ≤ 64). made n o u p' x r s) (le_prop q q')
    ∙ ap (λ (x : o < 2 ^ n). made n o u p' q' x s) (le_prop r r')
    ∙ ap (λ (x : u < 2 ^ n). made n o u p' q' r' x) (le_prop s s')

-- two vectors of the same fields are the same
pub same_fields : (v w : Lv) → v.width ≡ w.width → v.ones ≡ w.ones → v.unknown ≡ w.unknown → v ≡ w
same_fields v w e f g =
    let O : ℕ → Type 0 = λ o. (p' : 1 ≤ v.width) (q' : v.width ≤ 64) (r' : o < 2 ^ v.width) (s' : v.unknown < 2 ^ v.width) → v ≡ made v.width o v.unknown p' q' r' s' in
    let U : ℕ → Type 0 = λ u. (p' : 1 ≤ v.width) (q' : v.width ≤ 64) (r' : w.ones < 2 ^ v.width) (s' : u < 2 ^ v.width) → v ≡ made v.width w.ones u p' q' r' s' in
    let N : ℕ → Type 0 = λ n. (p' : 1 ≤ n) (q' : n ≤ 64) (r' : w.ones < 2 ^ n) (s' : w.unknown < 2 ^ n) → v ≡ made n w.ones w.unknown p' q' r' s' in
    let start : O v.ones = λ p' q' r' s'. same_made v.width v.ones v.unknown v.not_empty p' v.at_most_64 q' v.ones_fit r' v.unknown_fit s' in
    let ones : U v.unknown = subst O f start in
    let both : N v.width = subst U g ones in
    let all : N w.width = subst N e both in
    all w.not_empty w.at_most_64 w.ones_fit w.unknown_fit

pub length-digits_in : (n u o : ℕ) → length (digits_in n u o) ≡ n
length-digits_in zero u o = refl
length-digits_in (suc n) u o = ap suc (length-digits_in n (u / 2) (o / 2))

-- a vector has as many digits as it is wide
pub length-digits : (v : Lv) → length (digits v) ≡ v.width
length-digits v = length-digits_in v.width v.unknown v.ones

one_bit_of : (b p : ℕ) → p < 2 → one_bit (digit_of_bits b p) ≡ p
one_bit_of zero zero h = refl
one_bit_of zero (suc zero) h = refl
one_bit_of zero (suc (suc p)) h = absurd (omega arith)
one_bit_of (suc b) zero h = refl
one_bit_of (suc b) (suc zero) h = refl
one_bit_of (suc b) (suc (suc p)) h = absurd (omega arith)

unknown_bit_of : (b p : ℕ) → b < 2 → unknown_bit (digit_of_bits b p) ≡ b
unknown_bit_of zero zero h = refl
unknown_bit_of zero (suc p) h = refl
unknown_bit_of (suc zero) zero h = refl
unknown_bit_of (suc zero) (suc p) h = refl
unknown_bit_of (suc (suc b)) zero h = absurd (omega arith)
unknown_bit_of (suc (suc b)) (suc p) h = absurd (omega arith)

double : (n : ℕ) → 2 ^ suc n ≡ 2 * 2 ^ n
double n = pow-suc 2 n ∙ mul_comm (2 ^ n) 2

ones-digits_in : (n u o : ℕ) → o < 2 ^ n → plane_of one_bit (digits_in n u o) ≡ o
ones-digits_in zero u o h = omega arith
ones-digits_in (suc n) u o h =
    let twice = double n in
    let first = one_bit_of (u % 2) (o % 2) (omega arith) in
    let rest = ones-digits_in n (u / 2) (o / 2) (omega arith) in
    rw (first, rest) (omega arith)

unknown-digits_in : (n u o : ℕ) → u < 2 ^ n → plane_of unknown_bit (digits_in n u o) ≡ u
unknown-digits_in zero u o h = omega arith
unknown-digits_in (suc n) u o h =
    let twice = double n in
    let first = unknown_bit_of (u % 2) (o % 2) (omega arith) in
    let rest = unknown-digits_in n (u / 2) (o / 2) (omega arith) in
    rw (first, rest) (omega arith)

digit_of_its_bits : (d : Digit) → digit_of_bits (unknown_bit d) (one_bit d) ≡ d
digit_of_its_bits Zero = refl
digit_of_its_bits One = refl
digit_of_its_bits Z = refl
digit_of_its_bits X = refl

-- the planes of a list of digits have these digits
digits_in-planes : (ds : List Digit) → digits_in (length ds) (plane_of unknown_bit ds) (plane_of one_bit ds) ≡ ds
digits_in-planes [] = refl
digits_in-planes (d ∷ ds) =
    let most_u = unknown_bit-le d in
    let most_o = one_bit-le d in
    let low_u : (unknown_bit d + 2 * plane_of unknown_bit ds) % 2 ≡ unknown_bit d = omega arith in
    let low_o : (one_bit d + 2 * plane_of one_bit ds) % 2 ≡ one_bit d = omega arith in
    let half_u : (unknown_bit d + 2 * plane_of unknown_bit ds) / 2 ≡ plane_of unknown_bit ds = omega arith in
    let half_o : (one_bit d + 2 * plane_of one_bit ds) / 2 ≡ plane_of one_bit ds = omega arith in
    rw (low_u, low_o, half_u, half_o, digit_of_its_bits d, digits_in-planes ds) refl

clipped-same : (ds : List Digit) → 1 ≤ length ds → length ds ≤ 64 → clipped ds ≡ ds
clipped-same [] some most = absurd (omega arith)
clipped-same (d ∷ ds) some most = ap (λ es. d ∷ es) (take_all 63 ds (omega arith))

-- a list of 1 to 64 digits is that of its vector
pub digits-lv_of : (ds : List Digit) → 1 ≤ length ds → length ds ≤ 64 → digits (lv_of ds) ≡ ds
digits-lv_of ds some most = digits_in-planes (clipped ds) ∙ clipped-same ds some most

-- a vector is that of its digits
pub lv_of-digits : (v : Lv) → lv_of (digits v) ≡ v
lv_of-digits v =
    let width = length-digits v in
    let same : clipped (digits v) ≡ digits v = clipped-same (digits v) (rw width v.not_empty) (rw width v.at_most_64) in
    same_fields (lv_of (digits v)) v
    (ap length same ∙ width)
    (ap (plane_of one_bit) same ∙ ones-digits_in v.width v.unknown v.ones v.ones_fit)
    (ap (plane_of unknown_bit) same ∙ unknown-digits_in v.width v.unknown v.ones v.unknown_fit)

-- the digits tell which vector it is
pub is_lv_of : (v : Lv) (ds : List Digit) → digits v ≡ ds → v ≡ lv_of ds
is_lv_of v ds e = sym (lv_of-digits v) ∙ ap lv_of e

pub same_digits : (v w : Lv) → digits v ≡ digits w → v ≡ w
same_digits v w e = is_lv_of v (digits w) e ∙ lv_of-digits w
