-- Ids, bits, digits and lines, one at a time.
use Rattle.std.proofs.Common.{◌≡◌, ◌<◌, ◌≤◌, ◌+◌, ◌-◌, ◌/◌, ◌%◌, ◌^◌, ◌++◌, ℕ, zero, suc, Bool, true, false, List, [], ◌∷◌, Option, Some, map, reverse, drop, length, get_or, drop-cons, add-one, append_assoc, refl, sym, ap, ◌∙◌, arith, lit<}
use Rattle.std.specs.Prelude.{codes, nat_lt, slice_get, if◌then◌else◌}
use Rattle.std.specs.Fmt.{decimal}
use Rattle.std.proofs.lemmas.Fmt.{decimal_digit, decimal_step}
use Rattle.std.proofs.Math.Nat.{div-eq_of_lt, pow-le-pow_right}
use Rattle.std.proofs.lemmas.List.{drop-drop, drop_all, map-append, reverse-append}
use Rattle.std.proofs.lemmas.Bool.Decides.{nat_tests}
use Rattle.laws_runs.specs.LogicValues.declared.kinds.Digit.{Digit}
use Rattle.laws_runs.specs.LogicValues.declared.kinds.Value.{Value}
use Rattle.laws_runs.specs.LogicValues.declared.planes.Lv.{Lv}
use Rattle.laws_runs.specs.LogicValues.Digits.{digits}
use Rattle.laws_runs.proofs.LogicValues.VectorLaws.{length-digits}
use Rattle.laws_runs.specs.SimModel.Trace.{id_from, id_of, bit_letters, digit_letter, changed_lines, scope_line}
use Rattle.vcd_trace.specs.Points.{change_line}

-- a byte is put behind a text
pub pushed : (new old all rest : List ℕ) (b : ℕ) → new ≡ old ++ b ∷ [] → old ++ b ∷ rest ≡ all → new ++ rest ≡ all
pushed new old all rest b e h = ap (λ xs. xs ++ rest) e ∙ append_assoc old (b ∷ []) rest ∙ h

-- so are some
pub put_behind : (new old all piece rest : List ℕ) → new ≡ old ++ piece → old ++ (piece ++ rest) ≡ all → new ++ rest ≡ all
put_behind new old all piece rest e h = ap (λ xs. xs ++ rest) e ∙ append_assoc old piece rest ∙ h

-- ids

id_tail : (n more m : ℕ) (b : Bool) → nat_lt n 94 ≡ b → (94 ≤ n → id_from more (n / 94 - 1) ≡ id_from m (n / 94 - 1))
    → (33 + n % 94) ∷ (if b then [] else id_from more (n / 94 - 1)) ≡ (33 + n % 94) ∷ (if b then [] else id_from m (n / 94 - 1))
id_tail n more m true e h = refl
id_tail n more m false e h =
    let above : 94 ≤ n = grind (arith, nat_tests, e) in
    ap (λ (xs : List ℕ). (33 + n % 94) ∷ xs) (h above)

id_enough : (more m n : ℕ) → n < more → n < m → id_from more n ≡ id_from m n
id_enough zero m n h k = absurd (omega (arith, h))
id_enough (suc more) zero n h k = absurd (omega (arith, k))
id_enough (suc more) (suc m) n h k =
    id_tail n more m (nat_lt n 94) refl (λ above. id_enough more m (n / 94 - 1) (omega (arith, above, h)) (omega (arith, above, k)))

first_and_more : (n : ℕ) (b : Bool) → nat_lt n 94 ≡ b → 94 ≤ n → (33 + n % 94) ∷ (if b then [] else id_from n (n / 94 - 1)) ≡ (33 + n % 94) ∷ id_of (n / 94 - 1)
first_and_more n true e h = absurd (let below : n < 94 = grind (arith, nat_tests, e) in omega (arith, below, h))
first_and_more n false e h = ap (λ (xs : List ℕ). (33 + n % 94) ∷ xs) (id_enough n (suc (n / 94 - 1)) (n / 94 - 1) (omega (arith, h)) (omega arith))

-- an id is its first character and the id of the round before
pub id_more : (n : ℕ) → 94 ≤ n → id_of n ≡ (33 + n % 94) ∷ id_of (n / 94 - 1)
id_more n h = first_and_more n (nat_lt n 94) refl h

-- bits

pub no_bit : (n place : ℕ) → n < 2 ^ 64 → 64 ≤ place → 0 ≡ n / 2 ^ place % 2
no_bit n place h up =
    let wide : 2 ^ 64 ≤ 2 ^ place = pow-le-pow_right (lit< tt) up in
    let small : n < 2 ^ place = omega (arith, h, wide) in
    let none : n / 2 ^ place ≡ 0 = div-eq_of_lt small in
    rw none refl

pub bits_down : (p n : ℕ) → 0 < p → bit_letters p n ≡ (48 + n / 2 ^ (p - 1) % 2) ∷ bit_letters (p - 1) n
bits_down zero n h = absurd (omega (arith, h))
bits_down (suc p) n h =
    let down : suc p - 1 ≡ p = omega arith in
    sym (ap (λ (k : ℕ). (48 + n / 2 ^ k % 2) ∷ bit_letters k n) down)

-- digits

pub no_digits : (v : Lv) → drop v.width (digits v) ≡ []
no_digits v = let long : length (digits v) ≤ v.width = omega (arith, length-digits v) in drop_all v.width (digits v) long

drop_at : (i : ℕ) (ds : List Digit) (d : Digit) → slice_get ds i ≡ Some d → drop i ds ≡ d ∷ drop (i + 1) ds
drop_at i [] d e = cc
drop_at zero (x ∷ xs) d e = let same : x ≡ d = cc in ap (λ y. y ∷ xs) same
drop_at (suc i) (x ∷ xs) d e =
    let next : suc i + 1 ≡ suc (i + 1) = omega arith in
    rw next (drop_at i xs d e)

-- one digit more, from the highest down
pub letters_more : (p : ℕ) (ds : List Digit) (d : Digit) → 0 < p → slice_get ds (p - 1) ≡ Some d → map digit_letter (reverse (drop p ds)) ++ digit_letter d ∷ [] ≡ map digit_letter (reverse (drop (p - 1) ds))
letters_more p ds d some e =
    let up : p - 1 + 1 ≡ p = omega arith in
    let first : drop (p - 1) ds ≡ d ∷ drop p ds = drop_at (p - 1) ds d e ∙ ap (λ n. d ∷ drop n ds) up in
    let turned : reverse (drop (p - 1) ds) ≡ reverse (drop p ds) ++ d ∷ [] = ap reverse first ∙ reverse-append (d ∷ []) (drop p ds) in
    sym (ap (map digit_letter) turned ∙ map-append digit_letter (reverse (drop p ds)) (d ∷ []))

-- changes

get_drop : (n : ℕ) (us : List Value) → slice_get (drop n us) 0 ≡ slice_get us n
get_drop zero us = refl
get_drop (suc n) [] = refl
get_drop (suc n) (u ∷ us) = get_drop n us

changed_first : (n : ℕ) (us : List Value) (v : Value) (vs : List Value) → changed_lines n us (v ∷ vs) ≡ change_line n (slice_get us 0) v ++ changed_lines (suc n) (drop 1 us) vs
changed_first n [] v vs = refl
changed_first n (u ∷ us) v vs = refl

pub changed_next : (n : ℕ) (us vs : List Value) (v : Value) → n < length vs → v ≡ get_or vs n v
    → changed_lines n (drop n us) (drop n vs) ≡ change_line n (slice_get us n) v ++ changed_lines (n + 1) (drop (n + 1) us) (drop (n + 1) vs)
changed_next n us vs v within is =
    let here : drop n vs ≡ v ∷ drop (n + 1) vs = rw (add-one, drop-cons vs n v within, ← is) refl in
    let up : suc n ≡ n + 1 = omega arith in
    ap (changed_lines n (drop n us)) here
    ∙ changed_first n (drop n us) v (drop (n + 1) vs)
    ∙ ap (λ (o : Option Value). change_line n o v ++ changed_lines (suc n) (drop 1 (drop n us)) (drop (n + 1) vs)) (get_drop n us)
    ∙ ap (λ (os : List Value). change_line n (slice_get us n) v ++ changed_lines (suc n) os (drop (n + 1) vs)) (drop-drop 1 n us)
    ∙ ap (λ (k : ℕ). change_line n (slice_get us n) v ++ changed_lines k (drop (n + 1) us) (drop (n + 1) vs)) up

-- how many of its unit a resolution is

pub decimal_1 : decimal 1 ≡ codes "1"
decimal_1 = decimal_digit 1 (lit< tt)

pub decimal_10 : decimal 10 ≡ codes "10"
decimal_10 = decimal_step 10 (omega arith) (omega arith) ∙ ap (λ ds. ds ++ codes "0") decimal_1

pub decimal_100 : decimal 100 ≡ codes "100"
decimal_100 = decimal_step 100 (omega arith) (omega arith) ∙ ap (λ ds. ds ++ codes "0") decimal_10

-- the line of the time scale, piece by piece
pub scale_pieces : (old first second third new number unit : List ℕ) → first ≡ old ++ codes "$timescale " → second ≡ first ++ number → third ≡ second ++ unit → new ≡ third ++ (codes " $end" ++ 10 ∷ [])
    → new ≡ old ++ (codes "$timescale " ++ (number ++ unit) ++ codes " $end" ++ 10 ∷ [])
scale_pieces old first second third new number unit e1 e2 e3 e4 =
    let scale = codes "$timescale " in
    let end = codes " $end" ++ 10 ∷ [] in
    e4
    ∙ ap (λ xs. xs ++ end) (e3 ∙ ap (λ xs. xs ++ unit) (e2 ∙ ap (λ xs. xs ++ number) e1) ∙ append_assoc (old ++ scale) number unit ∙ append_assoc old scale (number ++ unit))
    ∙ append_assoc old (scale ++ (number ++ unit)) end
    ∙ ap (λ xs. old ++ xs) (sym (append_assoc (scale ++ (number ++ unit)) (codes " $end") (10 ∷ [])))

-- the line that opens a scope, in three pieces
pub scope_pieces : (text name one two three : List ℕ) → one ≡ text ++ codes "$scope module " → two ≡ one ++ name → three ≡ two ++ (codes " $end" ++ 10 ∷ []) → three ≡ text ++ scope_line name
scope_pieces text name one two three e1 e2 e3 =
    let begin = codes "$scope module " in
    let end = codes " $end" ++ 10 ∷ [] in
    e3
    ∙ ap (λ (t : List ℕ). t ++ end) e2
    ∙ ap (λ (t : List ℕ). (t ++ name) ++ end) e1
    ∙ append_assoc (text ++ begin) name end
    ∙ append_assoc text begin (name ++ end)
    ∙ ap (λ (t : List ℕ). text ++ (begin ++ t)) (sym (append_assoc name (codes " $end") (10 ∷ [])))
