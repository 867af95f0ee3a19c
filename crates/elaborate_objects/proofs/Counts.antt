-- The objects and the bytes of a walk.
use Rattle.std.proofs.Common.{◌≡◌, ◌<◌, ◌≤◌, ℕ, ◌+◌, true, false, List, [], ◌∷◌, ◌++◌, length, ap, ◌∙◌, arith}
use Rattle.std.specs.Prelude.{◌||◌, ◌-◌, not, nat_lt, nat_le}
use Rattle.std.proofs.lemmas.Bool.Decides.{nat_tests}
use Rattle.std.proofs.lemmas.List.{length-append}
use Rattle.check_names.specs.FlatDesign.declared.objects.Object.{Object}
use Rattle.design_rules.specs.ObjectFaults.{bytes_in, bytes_of, are_too_many}

pub bytes_append : (xs ys : List Object) → bytes_of (xs ++ ys) ≡ bytes_of xs + bytes_of ys
bytes_append [] ys = omega arith
bytes_append (x ∷ xs) ys = let rest = bytes_append xs ys in omega (arith, rest)

pub bytes_push : (xs : List Object) (o : Object) → bytes_of (xs ++ o ∷ []) ≡ bytes_of xs + bytes_in o.form
bytes_push xs o = let all = bytes_append xs (o ∷ []) in omega (arith, all)

by_counts : (a b c d : ℕ) → (nat_lt 65536 a || nat_lt 67108864 b) ≡ true → a ≤ c → b ≤ d → (nat_lt 65536 c || nat_lt 67108864 d) ≡ true
by_counts a b c d h le most = grind (arith, nat_tests, h, le, most)

-- objects behind too many
pub still_too_many : (xs ys : List Object) → are_too_many xs ≡ true → are_too_many (xs ++ ys) ≡ true
still_too_many xs ys h =
    let long = length-append xs ys in
    let all = bytes_append xs ys in
    by_counts (length xs) (bytes_of xs) (length (xs ++ ys)) (bytes_of (xs ++ ys)) h (omega (arith, long)) (omega (arith, all))

pub not_too_many : (xs : List Object) → length xs ≤ 65536 → bytes_of xs ≤ 67108864 → are_too_many xs ≡ false
not_too_many xs few small = by (length xs) (bytes_of xs) few small
  where
    by : (a b : ℕ) → a ≤ 65536 → b ≤ 67108864 → (nat_lt 65536 a || nat_lt 67108864 b) ≡ false
    by a b f s = grind (arith, nat_tests, f, s)

by_size : (a b s n d : ℕ) → a < 65536 → n ≡ a + 1 → d ≡ b + s → b ≤ 67108864 → (nat_lt 65536 n || nat_lt 67108864 d) ≡ not (nat_le s (67108864 - b))
by_size a b s n d few long all small = grind (arith, nat_tests, few, long, all, small)

-- one more object is too many where its bytes do not fit
pub fits_more : (xs : List Object) (o : Object) (bytes size : ℕ) → length xs < 65536 → bytes ≡ bytes_of xs → bytes ≤ 67108864 → size ≡ bytes_in o.form
    → are_too_many (xs ++ o ∷ []) ≡ not (nat_le size (67108864 - bytes))
fits_more xs o bytes size few counted small is =
    let all = bytes_push xs o in
    by_size (length xs) bytes size (length (xs ++ o ∷ [])) (bytes_of (xs ++ o ∷ [])) few (length-append xs (o ∷ [])) (omega (arith, all, counted, is)) small

by_limits : (a b : ℕ) → (nat_lt 65536 a || nat_lt 67108864 b) ≡ false → (a ≤ 65536) × (b ≤ 67108864)
by_limits a b h = (grind (arith, nat_tests, h), grind (arith, nat_tests, h))

-- with an object more that fits
pub counted_more : (xs ys : List Object) (o : Object) (bytes size : ℕ) → ys ≡ xs ++ o ∷ [] → bytes ≡ bytes_of xs → size ≡ bytes_in o.form → are_too_many (xs ++ o ∷ []) ≡ false
    → (length ys ≤ 65536) × (bytes + size ≡ bytes_of ys) × (bytes + size ≤ 67108864)
counted_more xs ys o bytes size e counted is fits =
    let all = bytes_push xs o in
    let limits = by_limits (length ys) (bytes_of ys) (ap are_too_many e ∙ fits) in
    let same : bytes + size ≡ bytes_of ys = omega (arith, all, counted, is, ap bytes_of e) in
    (limits.0, same, omega (arith, same, limits.1))
