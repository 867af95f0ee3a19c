use Rattle.std.proofs.Common.{ℕ, zero, suc, ◌≡◌, ◌+◌, ◌-◌, ◌*◌, ◌/◌, ◌%◌, ◌^◌, ◌<◌, ◌≤◌, bit_and, bit_or, Bool, true, false, List, [], ◌∷◌, ◌++◌, map, take, drop, refl, sym, ap, ◌∙◌, ⊎_elim, arith}
use Rattle.std.specs.Int.RustNames.{bit_xor}
use Rattle.std.specs.Prelude.{slice_get, Some}
use Rattle.std.proofs.Math.Nat.{pow-suc, mul_comm, mul_assoc, div-one}
use Rattle.std.proofs.lemmas.Nat.{and_shr, or_shr, xor_shr, and_mod, or_mod, xor_mod, and_le_l, shr-shr, field_of, mod-pow-add, pow-add, shl_whole, or_shifted, mul-add-lt}
use Rattle.std.proofs.lemmas.Nat.Bits.{shr_and_one}
use Rattle.std.proofs.lemmas.Bool.{cases_lt}
use Rattle.logic_values.specs.declared.kinds.Digit.{Digit}
use Rattle.logic_values.specs.declared.kinds.Digit.TheVariants.{Zero, One, Z, X}
use Rattle.logic_values.specs.Digits.{digit_of_bits, digits_in}
use Rattle.logic_values.specs.LogicTables.{and_of, or_of, xor_of, not_of}
use Rattle.logic_values.specs.Vectors.{digit_by_digit}

-- ---- one bit

abbrev pub bit : Bool → ℕ
bit false = 0
bit true = 1

-- the lowest bit of a number
pub lowest : (n : ℕ) → (b : Bool) × (n % 2 ≡ bit b)
lowest n =
    ⊎_elim
    (λ (e : n % 2 < 1). (false, omega arith))
    (λ (e : 1 ≤ n % 2). (true, omega arith))
    (cases_lt (n % 2) 1)

pub half_and : (a b : ℕ) → bit_and a b / 2 ≡ bit_and (a / 2) (b / 2)
half_and a b = and_shr a b 1

half_or : (a b : ℕ) → bit_or a b / 2 ≡ bit_or (a / 2) (b / 2)
half_or a b = or_shr a b 1

half_xor : (a b : ℕ) → bit_xor a b / 2 ≡ bit_xor (a / 2) (b / 2)
half_xor a b = xor_shr a b 1

pub low_and : (a b : ℕ) → bit_and a b % 2 ≡ bit_and (a % 2) (b % 2)
low_and a b = and_mod a b 1

low_or : (a b : ℕ) → bit_or a b % 2 ≡ bit_or (a % 2) (b % 2)
low_or a b = or_mod a b 1

low_xor : (a b : ℕ) → bit_xor a b % 2 ≡ bit_xor (a % 2) (b % 2)
low_xor a b = xor_mod a b 1

-- ---- AND

-- the table at one place
and_place : (p q r s : Bool) → digit_of_bits (bit_and (bit_and (bit_or (bit q) (bit p)) (bit_or (bit s) (bit r))) (bit_or (bit p) (bit r))) (bit_and (bit_or (bit q) (bit p)) (bit_or (bit s) (bit r))) ≡ and_of (digit_of_bits (bit p) (bit q)) (digit_of_bits (bit r) (bit s))
and_place false false false false = refl
and_place false false false true = refl
and_place false false true false = refl
and_place false false true true = refl
and_place false true false false = refl
and_place false true false true = refl
and_place false true true false = refl
and_place false true true true = refl
and_place true false false false = refl
and_place true false false true = refl
and_place true false true false = refl
and_place true false true true = refl
and_place true true false false = refl
and_place true true false true = refl
and_place true true true false = refl
and_place true true true true = refl

-- the planes that `and` makes
pub and_planes : (n ua oa ub ob : ℕ) → digits_in n (bit_and (bit_and (bit_or oa ua) (bit_or ob ub)) (bit_or ua ub)) (bit_and (bit_or oa ua) (bit_or ob ub)) ≡ digit_by_digit and_of (digits_in n ua oa) (digits_in n ub ob)
and_planes zero ua oa ub ob = refl
and_planes (suc n) ua oa ub ob =
    let first : digit_of_bits (bit_and (bit_and (bit_or (oa % 2) (ua % 2)) (bit_or (ob % 2) (ub % 2))) (bit_or (ua % 2) (ub % 2))) (bit_and (bit_or (oa % 2) (ua % 2)) (bit_or (ob % 2) (ub % 2))) ≡ and_of (digit_of_bits (ua % 2) (oa % 2)) (digit_of_bits (ub % 2) (ob % 2)) =
    rw ((lowest ua).1, (lowest oa).1, (lowest ub).1, (lowest ob).1) (and_place (lowest ua).0 (lowest oa).0 (lowest ub).0 (lowest ob).0) in
    let rest = and_planes n (ua / 2) (oa / 2) (ub / 2) (ob / 2) in
    simp (half_and, half_or, low_and, low_or) (rw (first, rest) refl)

-- a number below a power of two, masked by another
pub and_fits : (n x y : ℕ) → x < 2 ^ n → bit_and x y < 2 ^ n
and_fits n x y h = let less : bit_and x y ≤ x = and_le_l x y in omega arith

-- ---- XOR

xor_place : (p q r s : Bool) → digit_of_bits (bit_or (bit p) (bit r)) (bit_or (bit_xor (bit q) (bit s)) (bit_or (bit p) (bit r))) ≡ xor_of (digit_of_bits (bit p) (bit q)) (digit_of_bits (bit r) (bit s))
xor_place false false false false = refl
xor_place false false false true = refl
xor_place false false true false = refl
xor_place false false true true = refl
xor_place false true false false = refl
xor_place false true false true = refl
xor_place false true true false = refl
xor_place false true true true = refl
xor_place true false false false = refl
xor_place true false false true = refl
xor_place true false true false = refl
xor_place true false true true = refl
xor_place true true false false = refl
xor_place true true false true = refl
xor_place true true true false = refl
xor_place true true true true = refl

-- the planes that `xor` makes
pub xor_planes : (n ua oa ub ob : ℕ) → digits_in n (bit_or ua ub) (bit_or (bit_xor oa ob) (bit_or ua ub)) ≡ digit_by_digit xor_of (digits_in n ua oa) (digits_in n ub ob)
xor_planes zero ua oa ub ob = refl
xor_planes (suc n) ua oa ub ob =
    let first : digit_of_bits (bit_or (ua % 2) (ub % 2)) (bit_or (bit_xor (oa % 2) (ob % 2)) (bit_or (ua % 2) (ub % 2))) ≡ xor_of (digit_of_bits (ua % 2) (oa % 2)) (digit_of_bits (ub % 2) (ob % 2)) =
    rw ((lowest ua).1, (lowest oa).1, (lowest ub).1, (lowest ob).1) (xor_place (lowest ua).0 (lowest oa).0 (lowest ub).0 (lowest ob).0) in
    let rest = xor_planes n (ua / 2) (oa / 2) (ub / 2) (ob / 2) in
    simp (half_or, half_xor, low_or, low_xor) (rw (first, rest) refl)

-- ---- NOT

not_place : (p q : Bool) → digit_of_bits (bit p) (bit_or (bit_xor (bit q) 1) (bit p)) ≡ not_of (digit_of_bits (bit p) (bit q))
not_place false false = refl
not_place false true = refl
not_place true false = refl
not_place true true = refl

-- the planes that `not` makes
pub not_planes : (n u o mask : ℕ) → mask + 1 ≡ 2 ^ n → digits_in n u (bit_or (bit_xor o mask) u) ≡ map not_of (digits_in n u o)
not_planes zero u o mask e = refl
not_planes (suc n) u o mask e =
    let double : 2 ^ suc n ≡ 2 * 2 ^ n = pow-suc 2 n ∙ mul_comm (2 ^ n) 2 in
    let odd : mask % 2 ≡ 1 = omega arith in
    let half : mask / 2 + 1 ≡ 2 ^ n = omega arith in
    let first : digit_of_bits (u % 2) (bit_or (bit_xor (o % 2) 1) (u % 2)) ≡ not_of (digit_of_bits (u % 2) (o % 2)) =
    rw ((lowest u).1, (lowest o).1) (not_place (lowest u).0 (lowest o).0) in
    let rest = not_planes n (u / 2) (o / 2) (mask / 2) half in
    simp (half_or, half_xor, low_or, low_xor, odd) (rw (first, rest) refl)

-- ---- OR, by AND and NOT

de_morgan_place : (d e : Digit) → not_of (and_of (not_of d) (not_of e)) ≡ or_of d e
de_morgan_place Zero Zero = refl
de_morgan_place Zero One = refl
de_morgan_place Zero Z = refl
de_morgan_place Zero X = refl
de_morgan_place One Zero = refl
de_morgan_place One One = refl
de_morgan_place One Z = refl
de_morgan_place One X = refl
de_morgan_place Z Zero = refl
de_morgan_place Z One = refl
de_morgan_place Z Z = refl
de_morgan_place Z X = refl
de_morgan_place X Zero = refl
de_morgan_place X One = refl
de_morgan_place X Z = refl
de_morgan_place X X = refl

pub de_morgan : (ds es : List Digit) → map not_of (digit_by_digit and_of (map not_of ds) (map not_of es)) ≡ digit_by_digit or_of ds es
de_morgan [] es = refl
de_morgan (d ∷ ds) [] = refl
de_morgan (d ∷ ds) (e ∷ es) = rw (de_morgan_place d e, de_morgan ds es) refl

-- ---- places

shifted_twice : (a n : ℕ) → a * 2 ^ suc n ≡ 2 * (a * 2 ^ n)
shifted_twice a n = rw pow-suc (sym (mul_assoc a (2 ^ n) 2) ∙ mul_comm (a * 2 ^ n) 2)

-- the planes of one vector above those of another
pub concat_planes : (n m k : ℕ) → k ≡ n + m → (ua oa ub ob : ℕ) → ub < 2 ^ n → ob < 2 ^ n → digits_in k (ua * 2 ^ n + ub) (oa * 2 ^ n + ob) ≡ digits_in n ub ob ++ digits_in m ua oa
concat_planes zero m k e ua oa ub ob hu ho =
    let same : k ≡ m = omega arith in
    let u : ua * 1 + ub ≡ ua = omega arith in
    let o : oa * 1 + ob ≡ oa = omega arith in
    rw (same, u, o) refl
concat_planes (suc n) m zero e ua oa ub ob hu ho = absurd (omega arith)
concat_planes (suc n) m (suc k) e ua oa ub ob hu ho =
    let double : 2 ^ suc n ≡ 2 * 2 ^ n = pow-suc 2 n ∙ mul_comm (2 ^ n) 2 in
    let eu = shifted_twice ua n in
    let eo = shifted_twice oa n in
    let low_u : (ua * 2 ^ suc n + ub) % 2 ≡ ub % 2 = omega arith in
    let low_o : (oa * 2 ^ suc n + ob) % 2 ≡ ob % 2 = omega arith in
    let half_u : (ua * 2 ^ suc n + ub) / 2 ≡ ua * 2 ^ n + ub / 2 = omega arith in
    let half_o : (oa * 2 ^ suc n + ob) / 2 ≡ oa * 2 ^ n + ob / 2 = omega arith in
    let rest = concat_planes n m k (omega arith) ua oa (ub / 2) (ob / 2) (omega arith) (omega arith) in
    rw (low_u, low_o, half_u, half_o, rest) refl

-- the planes moved down
pub drop_planes : (i m k u o : ℕ) → k ≡ i + m → drop i (digits_in k u o) ≡ digits_in m (u / 2 ^ i) (o / 2 ^ i)
drop_planes zero m k u o e =
    let same : k ≡ m = omega arith in
    rw (same, div-one u, div-one o) refl
drop_planes (suc i) m zero u o e = absurd (omega arith)
drop_planes (suc i) m (suc k) u o e =
    let next : 1 + i ≡ suc i = omega arith in
    let down_u : u / 2 / 2 ^ i ≡ u / 2 ^ suc i = shr-shr u 1 i ∙ ap (λ j. u / 2 ^ j) next in
    let down_o : o / 2 / 2 ^ i ≡ o / 2 ^ suc i = shr-shr o 1 i ∙ ap (λ j. o / 2 ^ j) next in
    rw (← down_u, ← down_o) (drop_planes i m k (u / 2) (o / 2) (omega arith))

pub low_of_field : (n j : ℕ) → n % 2 ^ suc j % 2 ≡ n % 2
low_of_field n j =
    let next : j + 1 ≡ suc j = omega arith in
    let parts : n % 2 ^ (j + 1) ≡ (n / 2 % 2 ^ j) * 2 + n % 2 = mod-pow-add n j 1 in
    rw (← next) (rw parts (omega arith))

pub half_of_field : (n j : ℕ) → n % 2 ^ suc j / 2 ≡ n / 2 % 2 ^ j
half_of_field n j =
    let next : j + 1 ≡ suc j = omega arith in
    ap (λ i. n % 2 ^ i / 2) (sym next) ∙ field_of n j 1

-- the lowest places of the planes
pub take_planes : (j m k u o : ℕ) → k ≡ j + m → take j (digits_in k u o) ≡ digits_in j (u % 2 ^ j) (o % 2 ^ j)
take_planes zero m k u o e = refl
take_planes (suc j) m zero u o e = absurd (omega arith)
take_planes (suc j) m (suc k) u o e =
    rw (low_of_field u j, low_of_field o j, half_of_field u j, half_of_field o j, take_planes j m k (u / 2) (o / 2) (omega arith)) refl

-- one place of the planes
pub place_of_planes : (i k u o : ℕ) → i < k → slice_get (digits_in k u o) i ≡ Some (digit_of_bits (u / 2 ^ i % 2) (o / 2 ^ i % 2))
place_of_planes i zero u o h = absurd (omega arith)
place_of_planes zero (suc k) u o h = rw (div-one u, div-one o) refl
place_of_planes (suc i) (suc k) u o h =
    let next : 1 + i ≡ suc i = omega arith in
    let down_u : u / 2 / 2 ^ i ≡ u / 2 ^ suc i = shr-shr u 1 i ∙ ap (λ j. u / 2 ^ j) next in
    let down_o : o / 2 / 2 ^ i ≡ o / 2 ^ suc i = shr-shr o 1 i ∙ ap (λ j. o / 2 ^ j) next in
    rw (← down_u, ← down_o) (place_of_planes i k (u / 2) (o / 2) (omega arith))

-- ---- what the functions on vectors cite

pub at_width : (n m x : ℕ) → n ≡ m → x < 2 ^ m → x < 2 ^ n
at_width n m x e h = rw e h

-- `(a << k) | b`
pub shifted_or : (a j b k : ℕ) → a < 2 ^ j → b < 2 ^ k → j + k ≤ 64 → bit_or ((a * 2 ^ k) % 2 ^ 64) b ≡ a * 2 ^ k + b
shifted_or a j b k ha hb h = rw (shl_whole a j k 64 ha h) (or_shifted a k b hb)

pub shifted_or_fits : (a j b k : ℕ) → a < 2 ^ j → b < 2 ^ k → j + k ≤ 64 → bit_or ((a * 2 ^ k) % 2 ^ 64) b < 2 ^ (j + k)
shifted_or_fits a j b k ha hb h =
    let within : a * 2 ^ k + b < 2 ^ k * 2 ^ j = mul-add-lt a (2 ^ k) b (2 ^ j) ha hb in
    let power : 2 ^ (j + k) ≡ 2 ^ k * 2 ^ j = pow-add 2 j k ∙ mul_comm (2 ^ j) (2 ^ k) in
    rw (shifted_or a j b k ha hb h, power) within

pub shifted_or_digits : (wa ua oa wb ub ob : ℕ) → ua < 2 ^ wa → oa < 2 ^ wa → ub < 2 ^ wb → ob < 2 ^ wb → wa + wb ≤ 64
    → digits_in (wa + wb) (bit_or ((ua * 2 ^ wb) % 2 ^ 64) ub) (bit_or ((oa * 2 ^ wb) % 2 ^ 64) ob) ≡ digits_in wb ub ob ++ digits_in wa ua oa
shifted_or_digits wa ua oa wb ub ob hua hoa hub hob h =
    rw (shifted_or ua wa ub wb hua hub h, shifted_or oa wa ob wb hoa hob h)
    (concat_planes wb wa (wa + wb) (omega arith) ua oa ub ob hub hob)

pub slice_digits : (low w k u o ru ro : ℕ) → low + w ≤ k → ru ≡ u / 2 ^ low % 2 ^ w → ro ≡ o / 2 ^ low % 2 ^ w
    → digits_in w ru ro ≡ take w (drop low (digits_in k u o))
slice_digits low w k u o ru ro h eu eo =
    rw (eu, eo, drop_planes low (k - low) k u o (omega arith))
    (sym (take_planes w (k - low - w) (k - low) (u / 2 ^ low) (o / 2 ^ low) (omega arith)))

-- a test of one bit
pub place_set : (n i : ℕ) → bit_and (n / 2 ^ i) 1 ≡ 1 → n / 2 ^ i % 2 ≡ 1
place_set n i e = sym (shr_and_one n i) ∙ e

pub place_clear : (n i : ℕ) → (bit_and (n / 2 ^ i) 1 ≡ 1 → ⊥) → n / 2 ^ i % 2 ≡ 0
place_clear n i not_one =
    let is : bit_and (n / 2 ^ i) 1 ≡ n / 2 ^ i % 2 = shr_and_one n i in
    let not_set : n / 2 ^ i % 2 ≡ 1 → ⊥ = λ e. not_one (is ∙ e) in
    ⊎_elim
    (λ (e : n / 2 ^ i % 2 < 1). omega arith)
    (λ (e : 1 ≤ n / 2 ^ i % 2). absurd (not_set (omega arith)))
    (cases_lt (n / 2 ^ i % 2) 1)

pub place_is : (i k u o p q : ℕ) → i < k → u / 2 ^ i % 2 ≡ p → o / 2 ^ i % 2 ≡ q → slice_get (digits_in k u o) i ≡ Some (digit_of_bits p q)
place_is i k u o p q h eu eo = rw (place_of_planes i k u o h, eu, eo) refl
