-- Places of times: their order is that of the times, and they stay where the origin moves past none of them.
use Rattle.std.proofs.Common.{◌≡◌, ℕ, zero, suc, ◌+◌, ◌-◌, ◌*◌, ◌/◌, ◌%◌, ◌^◌, ◌≢◌, ◌≤◌, ◌<◌, cond, refl, sym, ap, ◌∙◌, ⊎_elim, subst, arith, eq-eqb, ne_eqb, lit≤}
use Rattle.std.proofs.lemmas.Bool.{cases_eq, cases_lt, lt-ltb, le-ltb}
use Rattle.std.proofs.Math.Nat.{pow-succ', mul_assoc, one-mul, one-le-pow, le-mul_of_pos_right, mul_comm}
use Rattle.timed_queue.specs.Placing.{place_at, start_at}

pub place_here : (n t o : ℕ) → t / 64 ≡ o / 64 → place_at n t o ≡ t % 64
unfolding place_at
place_here zero t o same = refl
place_here (suc n) t o same = ap (λ b. cond b (t % 64) (64 + place_at n (t / 64) (o / 64))) (eq-eqb (t / 64) (o / 64) same)

pub place_above : (n t o : ℕ) → t / 64 ≢ o / 64 → place_at (suc n) t o ≡ 64 + place_at n (t / 64) (o / 64)
unfolding place_at
place_above n t o apart = ap (λ b. cond b (t % 64) (64 + place_at n (t / 64) (o / 64))) (ne_eqb (t / 64) (o / 64) apart)

pub place_last : (t o : ℕ) → place_at 0 t o ≡ t % 64
unfolding place_at
place_last t o = refl

-- there are 64 places on each level
pub place-lt : (n t o : ℕ) → place_at n t o < 64 * n + 64
place-lt zero t o = let e = place_last t o in omega (arith, e)
place-lt (suc n) t o = ⊎_elim
    (λ (same : t / 64 ≡ o / 64). let e = place_here (suc n) t o same in omega (arith, e))
    (λ (apart : t / 64 ≢ o / 64). let e = place_above n t o apart in let below = place-lt n (t / 64) (o / 64) in omega (arith, e, below))
    (cases_eq (t / 64) (o / 64))

-- times of few enough digits, of which the origin is the least
abbrev pub Fits : ℕ → ℕ → Type 0
Fits n t = t < 64 * 64 ^ n

fits_last : (t o : ℕ) → Fits 0 t → Fits 0 o → t / 64 ≡ o / 64
fits_last t o ft fo = omega (arith, ft, fo)

fits_above : (n t : ℕ) → Fits (suc n) t → Fits n (t / 64)
fits_above n t f = let e : 64 ^ suc n ≡ 64 * 64 ^ n = pow-succ' 64 n in omega (arith, f, e)

-- an earlier place has earlier times
pub place_order : (n t u o : ℕ) → Fits n t → Fits n u → Fits n o → o ≤ t → o ≤ u → place_at n t o < place_at n u o → t < u
place_order zero t u o ft fu fo ot ou less =
    let et = place_last t o in let eu = place_last u o in
    let st = fits_last t o ft fo in let su = fits_last u o fu fo in omega (arith, et, eu, st, su, less)
place_order (suc n) t u o ft fu fo ot ou less = ⊎_elim
    (λ (same : t / 64 ≡ o / 64). let et = place_here (suc n) t o same in ⊎_elim
    (λ (same' : u / 64 ≡ o / 64). let eu = place_here (suc n) u o same' in omega (arith, et, eu, same, same', less))
    (λ (apart' : u / 64 ≢ o / 64). omega (arith, same, apart', ot, ou))
    (cases_eq (u / 64) (o / 64)))
    (λ (apart : t / 64 ≢ o / 64). let et = place_above n t o apart in ⊎_elim
    (λ (same' : u / 64 ≡ o / 64). let eu = place_here (suc n) u o same' in absurd (omega (arith, et, eu, less)))
    (λ (apart' : u / 64 ≢ o / 64). let eu = place_above n u o apart' in
    let rest : t / 64 < u / 64 = place_order n (t / 64) (u / 64) (o / 64) (fits_above n t ft) (fits_above n u fu) (fits_above n o fo) (omega (arith, ot)) (omega (arith, ou)) (omega (arith, et, eu, less)) in
    omega (arith, rest))
    (cases_eq (u / 64) (o / 64)))
    (cases_eq (t / 64) (o / 64))

-- times in one place of the lowest level are the same
pub place_same : (n t u o : ℕ) → Fits n t → Fits n u → Fits n o → place_at n t o < 64 → place_at n u o ≡ place_at n t o → t ≡ u
place_same zero t u o ft fu fo low same =
    let et = place_last t o in let eu = place_last u o in let st = fits_last t o ft fo in let su = fits_last u o fu fo in omega (arith, et, eu, st, su, same)
place_same (suc n) t u o ft fu fo low same = ⊎_elim
    (λ (st : t / 64 ≡ o / 64). let et = place_here (suc n) t o st in ⊎_elim
    (λ (su : u / 64 ≡ o / 64). let eu = place_here (suc n) u o su in omega (arith, et, eu, st, su, same))
    (λ (au : u / 64 ≢ o / 64). let eu = place_above n u o au in absurd (omega (arith, eu, same, low)))
    (cases_eq (u / 64) (o / 64)))
    (λ (at : t / 64 ≢ o / 64). let et = place_above n t o at in absurd (omega (arith, et, low)))
    (cases_eq (t / 64) (o / 64))

-- a time in another place than t stays there where t becomes the origin
pub place_stays : (n t u o : ℕ) → Fits n t → Fits n u → Fits n o → o ≤ t → t ≤ u → place_at n u o ≢ place_at n t o → place_at n u t ≡ place_at n u o
place_stays zero t u o ft fu fo ot tu apart = place_last u t ∙ sym (place_last u o)
place_stays (suc n) t u o ft fu fo ot tu apart = ⊎_elim
    (λ (st : t / 64 ≡ o / 64). ⊎_elim
    (λ (su : u / 64 ≡ o / 64). place_here (suc n) u t (su ∙ sym st) ∙ sym (place_here (suc n) u o su))
    (λ (au : u / 64 ≢ o / 64). place_above n u t (λ e. au (e ∙ st)) ∙ ap (λ m. 64 + place_at n (u / 64) m) st ∙ sym (place_above n u o au))
    (cases_eq (u / 64) (o / 64)))
    (λ (at : t / 64 ≢ o / 64).
    let et = place_above n t o at in
    let au : u / 64 ≢ o / 64 = λ (e : u / 64 ≡ o / 64). omega (arith, e, at, ot, tu) in
    let eu = place_above n u o au in
    let rest : place_at n (u / 64) (t / 64) ≡ place_at n (u / 64) (o / 64) = place_stays n (t / 64) (u / 64) (o / 64) (fits_above n t ft) (fits_above n u fu) (fits_above n o fo)
    (omega (arith, ot)) (omega (arith, tu)) (λ (e : place_at n (u / 64) (o / 64) ≡ place_at n (t / 64) (o / 64)). apart (omega (arith, e, et, eu))) in
    let aut : u / 64 ≢ t / 64 = λ (e : u / 64 ≡ t / 64). apart (eu ∙ ap (λ m. 64 + place_at n m (o / 64)) e ∙ sym et) in
    place_above n u t aut ∙ ap (λ m. 64 + m) rest ∙ sym eu)
    (cases_eq (t / 64) (o / 64))

-- a time in the place of t, above the lowest level, comes to an earlier place where t becomes the origin
pub place_falls : (n t u o : ℕ) → Fits n t → Fits n u → Fits n o → o ≤ t → t ≤ u → place_at n u o ≡ place_at n t o → 64 ≤ place_at n t o → place_at n u t < place_at n t o
place_falls zero t u o ft fu fo ot tu same high = let et = place_last t o in absurd (omega (arith, et, high))
place_falls (suc n) t u o ft fu fo ot tu same high = ⊎_elim
    (λ (st : t / 64 ≡ o / 64). let et = place_here (suc n) t o st in absurd (omega (arith, et, high)))
    (λ (at : t / 64 ≢ o / 64).
    let et = place_above n t o at in
    let au : u / 64 ≢ o / 64 = λ (e : u / 64 ≡ o / 64). omega (arith, e, at, ot, tu) in
    let eu = place_above n u o au in
    let above : place_at n (u / 64) (o / 64) ≡ place_at n (t / 64) (o / 64) = omega (arith, et, eu, same) in ⊎_elim
    (λ (sut : u / 64 ≡ t / 64). let e = place_here (suc n) u t sut in omega (arith, e, high))
    (λ (aut : u / 64 ≢ t / 64). let e = place_above n u t aut in ⊎_elim
    (λ (low : place_at n (t / 64) (o / 64) < 64). absurd (aut (sym (place_same n (t / 64) (u / 64) (o / 64) (fits_above n t ft) (fits_above n u fu) (fits_above n o fo) low above))))
    (λ (big : 64 ≤ place_at n (t / 64) (o / 64)).
    let rest = place_falls n (t / 64) (u / 64) (o / 64) (fits_above n t ft) (fits_above n u fu) (fits_above n o fo) (omega (arith, ot)) (omega (arith, tu)) above big in
    omega (arith, rest, e, et))
    (cases_lt (place_at n (t / 64) (o / 64)) 64))
    (cases_eq (u / 64) (t / 64)))
    (cases_eq (t / 64) (o / 64))

-- ---- the start of a place

start_last : (p o : ℕ) → start_at 0 p o ≡ o / 64 * 64 + p
unfolding start_at
start_last p o = refl

pub start_here : (n p o : ℕ) → p < 64 → start_at n p o ≡ o / 64 * 64 + p
unfolding start_at
start_here zero p o low = refl
start_here (suc n) p o low = ap (λ b. cond b (o / 64 * 64 + p) (64 * start_at n (p - 64) (o / 64))) (lt-ltb p 64 low)

start_above : (n p o : ℕ) → 64 ≤ p → start_at (suc n) p o ≡ 64 * start_at n (p - 64) (o / 64)
unfolding start_at
start_above n p o high = ap (λ b. cond b (o / 64 * 64 + p) (64 * start_at n (p - 64) (o / 64))) (le-ltb p 64 high)

-- no time stands before the start of its place
pub start-le : (n t o : ℕ) → Fits n t → Fits n o → start_at n (place_at n t o) o ≤ t
start-le zero t o ft fo = let e = place_last t o in let s = start_last (place_at 0 t o) o in let f = fits_last t o ft fo in omega (arith, e, s, f)
start-le (suc n) t o ft fo = ⊎_elim
    (λ (st : t / 64 ≡ o / 64).
    let e = place_here (suc n) t o st in let low : place_at (suc n) t o < 64 = omega (arith, e) in
    let s = start_here (suc n) (place_at (suc n) t o) o low in omega (arith, e, s, st))
    (λ (at : t / 64 ≢ o / 64).
    let e = place_above n t o at in let high : 64 ≤ place_at (suc n) t o = omega (arith, e) in
    let s = start_above n (place_at (suc n) t o) o high in
    let rest = start-le n (t / 64) (o / 64) (fits_above n t ft) (fits_above n o fo) in
    let f : start_at n (place_at (suc n) t o - 64) (o / 64) ≡ start_at n (place_at n (t / 64) (o / 64)) (o / 64) = ap (λ p. start_at n p (o / 64)) (omega (arith, e)) in
    omega (arith, s, rest, f))
    (cases_eq (t / 64) (o / 64))

-- a time of 64 bits has few enough digits
pub fits_word : (t : ℕ) → t < 2 ^ 64 → Fits 10 t
fits_word t f = let e : 2 ^ 64 ≤ 64 * 64 ^ 10 = lit≤ tt in omega (arith, f, e)

-- ---- by the number of levels

pub place_none : (n t o : ℕ) → n ≡ 0 → place_at n t o ≡ t % 64
place_none n t o none = ap (λ m. place_at m t o) none ∙ place_last t o

pub place_more : (n t o : ℕ) → 0 < n → t / 64 ≢ o / 64 → place_at n t o ≡ 64 + place_at (n - 1) (t / 64) (o / 64)
place_more zero t o some apart = absurd (omega (arith, some))
place_more (suc n) t o some apart = let e : suc n - 1 ≡ n = omega arith in place_above n t o apart ∙ ap (λ m. 64 + place_at m (t / 64) (o / 64)) (sym e)

pub start_none : (n p o : ℕ) → n ≡ 0 → start_at n p o ≡ o / 64 * 64 + p
start_none n p o none = ap (λ m. start_at m p o) none ∙ start_last p o

pub start_more : (n p o : ℕ) → 0 < n → 64 ≤ p → start_at n p o ≡ 64 * start_at (n - 1) (p - 64) (o / 64)
start_more zero p o some high = absurd (omega (arith, some))
start_more (suc n) p o some high = let e : suc n - 1 ≡ n = omega arith in start_above n p o high ∙ ap (λ m. 64 * start_at m (p - 64) (o / 64)) (sym e)

-- in a place of the lowest level a time stays where it becomes the origin
pub place_own : (n t o : ℕ) → place_at (suc n) t o < 64 → place_at (suc n) t t ≡ place_at (suc n) t o
place_own n t o low = ⊎_elim
    (λ (same : t / 64 ≡ o / 64). place_here (suc n) t t refl ∙ sym (place_here (suc n) t o same))
    (λ (apart : t / 64 ≢ o / 64). let e = place_above n t o apart in absurd (omega (arith, e, low)))
    (cases_eq (t / 64) (o / 64))

-- ---- down the levels: how many times of the lowest one a time of this level is, and what stands in the place there

pub record Down (p o unit levels left high : ℕ) : Type 0 where
  pub start : unit * start_at levels left high ≡ start_at 10 p o
  pub whole : unit * 64 ^ levels ≡ 64 ^ 10

pub down_first : (p o : ℕ) → Down p o 1 10 p o
down_first p o = record { start = one-mul (start_at 10 p o); whole = one-mul (64 ^ 10) }

pow_more : (n : ℕ) → 0 < n → 64 ^ n ≡ 64 * 64 ^ (n - 1)
pow_more zero some = absurd (omega (arith, some))
pow_more (suc n) some = let e : suc n - 1 ≡ n = omega arith in pow-succ' 64 n ∙ ap (λ m. 64 * 64 ^ m) (sym e)

module _ (p o unit levels left high : ℕ) (d : Down p o unit levels left high) where
  pub down_more : 0 < levels → 64 ≤ left → Down p o (unit * 64) (levels - 1) (left - 64) (high / 64)
  down_more some far = record {
    start = mul_assoc unit 64 (start_at (levels - 1) (left - 64) (high / 64)) ∙ ap (λ x. unit * x) (sym (start_more levels left high some far)) ∙ d.start;
    whole = mul_assoc unit 64 (64 ^ (levels - 1)) ∙ ap (λ x. unit * x) (sym (pow_more levels some)) ∙ d.whole;
  }

  pow_pos : (n : ℕ) → 0 < 64 ^ n
  pow_pos n = one-le-pow n 64 (lit≤ tt)

  pub down_fits : unit ≤ 64 ^ 10
  down_fits = subst (λ x. unit ≤ x) d.whole (le-mul_of_pos_right unit (pow_pos levels))

  unit_pos : 0 < unit
  unit_pos = by_unit unit d.whole
    where
      by_unit : (u : ℕ) → u * 64 ^ levels ≡ 64 ^ 10 → 0 < u
      by_unit zero e = absurd (omega (arith, e, pow_pos 10))
      by_unit (suc u) e = omega arith

  module _ (here : start_at levels left high ≡ high / 64 * 64 + left) where
    pub down_last : unit * (high / 64 * 64 + left) ≡ start_at 10 p o
    down_last = ap (λ x. unit * x) (sym here) ∙ d.start

    pub down_low : high / 64 * 64 + left ≤ start_at 10 p o
    down_low = subst (λ x. high / 64 * 64 + left ≤ x) (mul_comm (high / 64 * 64 + left) unit ∙ down_last) (le-mul_of_pos_right (high / 64 * 64 + left) unit_pos)

pub unit_fits : (p o unit levels left high : ℕ) → Down p o unit levels left high → unit < 2 ^ 64
unit_fits p o unit levels left high d = let e : 64 ^ 10 < 2 ^ 64 = lit≤ tt in omega (arith, down_fits p o unit levels left high d, e)
