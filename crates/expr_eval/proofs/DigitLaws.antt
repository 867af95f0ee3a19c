-- Vectors at the widths that there are, and digits cut alike.
use Rattle.std.proofs.Common.{ℕ, zero, suc, ◌≡◌, ◌+◌, ◌-◌, ◌/◌, ◌%◌, ◌<◌, ◌≤◌, List, [], ◌∷◌, ◌++◌, length, take, drop, min, refl, sym, ap, ◌∙◌, ⊎_elim, arith}
use Rattle.std.specs.Prelude.{replicate, slice_get, slice_range, Some, None}
use Rattle.std.proofs.lemmas.Bool.{cases_lt}
use Rattle.std.proofs.lemmas.List.{take_all, take_min, take-take, take-replicate, take-append-le, length-take, length-drop, append-nil}
use Rattle.std.proofs.lemmas.Option.{slice_get_within, slice_get_past, get_or_from_slice_get}
use Rattle.std.proofs.Math.ListN.{drop_of_length-le}
use Rattle.std.proofs.Math.Seq.{take-append-add}
use Rattle.sim_model.specs.LogicValues.declared.kinds.Digit.{Digit}
use Rattle.sim_model.specs.LogicValues.declared.kinds.Digit.TheVariants.{Zero}
use Rattle.sim_model.specs.LogicValues.declared.planes.Lv.{Lv}
use Rattle.sim_model.specs.LogicValues.Digits.{digits}
use Rattle.sim_model.specs.LogicValues.Planes.{unknown_bit, one_bit, plane_of, clipped, lv_of}
use Rattle.sim_model.specs.LogicValues.Vectors.{digit_by_digit, binary_digit, binary_digits, resized}
use Rattle.sim_model.proofs.LogicValues.VectorLaws.{same_fields, is_lv_of, length-digits}
use Rattle.sim_model.specs.Values.{one_digit}

-- the vector of a list is that of its first 64 digits
same_clipped : (xs ys : List Digit) → clipped xs ≡ clipped ys → lv_of xs ≡ lv_of ys
same_clipped xs ys e = same_fields (lv_of xs) (lv_of ys) (ap length e) (ap (plane_of one_bit) e) (ap (plane_of unknown_bit) e)

clipped-take : (xs : List Digit) → clipped (take 64 xs) ≡ clipped xs
clipped-take [] = refl
clipped-take (x ∷ xs) = ap (λ ys. x ∷ ys) (take-take 63 63 xs (omega arith))

-- a vector whose digits are the first 64 of a list is the vector of the list
is_first_64 : (v : Lv) (xs : List Digit) → digits v ≡ take 64 xs → v ≡ lv_of xs
is_first_64 v xs e = is_lv_of v (take 64 xs) e ∙ same_clipped (take 64 xs) xs (clipped-take xs)

-- the lowest digits of a number
first_binary : (k w n : ℕ) → k ≤ w → take k (binary_digits w n) ≡ binary_digits k n
first_binary zero w n h = refl
first_binary (suc k) zero n h = absurd (omega arith)
first_binary (suc k) (suc w) n h = ap (λ ds. binary_digit (n % 2) ∷ ds) (first_binary k w (n / 2) (omega arith))

length-binary : (w n : ℕ) → length (binary_digits w n) ≡ w
length-binary zero n = refl
length-binary (suc w) n = ap suc (length-binary w (n / 2))

-- digits at another width, cut once more
first_filled : (k w m : ℕ) (xs : List Digit) → k ≤ w → k ≤ m → take k (xs ++ replicate w Zero) ≡ take k (xs ++ replicate m Zero)
first_filled zero w m xs h g = refl
first_filled (suc k) w m [] h g = take-replicate (suc k) w Zero h ∙ sym (take-replicate (suc k) m Zero g)
first_filled (suc k) w m (x ∷ xs) h g = ap (λ ds. x ∷ ds) (first_filled k w m xs (omega arith) (omega arith))

first_resized : (k w : ℕ) (xs : List Digit) → k ≤ w → take k (resized w xs) ≡ resized k xs
first_resized k w xs h = take-take k w (xs ++ replicate w Zero) h ∙ first_filled k w k xs h (omega arith)

-- the vector of the lowest bits of a number
pub binary_vector : (w n m : ℕ) (v : Lv) → m ≡ min w 64 → digits v ≡ binary_digits m n → v ≡ lv_of (binary_digits w n)
binary_vector w n m v least e = is_first_64 v (binary_digits w n) (e ∙ ⊎_elim
    (λ (near : w < 64). let is : m ≡ w = omega arith in ap (λ k. binary_digits k n) is ∙ sym (take_all 64 (binary_digits w n) (omega (arith, length-binary w n))))
    (λ (far : 64 ≤ w). let is : m ≡ 64 = omega arith in ap (λ k. binary_digits k n) is ∙ sym (first_binary 64 w n far))
    (cases_lt w 64))

-- the vector of digits at another width
pub resized_vector : (w m : ℕ) (xs : List Digit) (v : Lv) → m ≡ min w 64 → digits v ≡ resized m xs → v ≡ lv_of (resized w xs)
resized_vector w m xs v least e = is_first_64 v (resized w xs) (e ∙ ⊎_elim
    (λ (near : w < 64). let is : m ≡ w = omega arith in ap (λ k. resized k xs) is ∙ sym (take_all 64 (resized w xs) (omega (arith, length-take w (xs ++ replicate w Zero)))))
    (λ (far : 64 ≤ w). let is : m ≡ 64 = omega arith in ap (λ k. resized k xs) is ∙ sym (first_resized 64 w xs far))
    (cases_lt w 64))

-- no digits at another width are all 0
pub zeros_vector : (w m : ℕ) (v : Lv) → m ≡ min w 64 → digits v ≡ replicate m Zero → v ≡ lv_of (resized w [])
zeros_vector w m v least e = resized_vector w m [] v least (e ∙ sym (take-replicate m m Zero (omega arith)))

-- the first digit
pub first_of : (xs : List Digit) (d : Digit) → slice_get xs 0 ≡ Some d → one_digit xs ≡ d
first_of [] d e = let some = slice_get_within [] 0 d e in absurd (omega arith)
first_of (x ∷ xs) d e = get_or_from_slice_get (x ∷ xs) 0 d d e

-- past the width there is none
pub no_digit_past : (v : Lv) (i : ℕ) → v.width ≤ i → slice_get (digits v) i ≡ None
no_digit_past v i h = let wide = length-digits v in slice_get_past (digits v) i (omega arith)

-- an operator sees no more digits than both have
both_cut : (f : Digit → Digit → Digit) (n : ℕ) (xs ys : List Digit) → n ≡ min (length xs) (length ys) → digit_by_digit f (take n xs) (take n ys) ≡ digit_by_digit f xs ys
both_cut f zero [] ys least = refl
both_cut f zero (x ∷ xs) [] least = refl
both_cut f zero (x ∷ xs) (y ∷ ys) least = absurd (omega arith)
both_cut f (suc n) [] ys least = absurd (omega arith)
both_cut f (suc n) (x ∷ xs) [] least = absurd (omega arith)
both_cut f (suc n) (x ∷ xs) (y ∷ ys) least = ap (λ ds. f x y ∷ ds) (both_cut f n xs ys (omega arith))

cut_short : (n : ℕ) (xs : List Digit) → n ≤ length xs → resized n xs ≡ take n xs
cut_short n xs h = take-append-le n xs (replicate n Zero) h

pub pair_cut : (a b c d : Lv) (n : ℕ) → n ≡ min a.width b.width → digits c ≡ resized n (digits a) → digits d ≡ resized n (digits b)
    → (f : Digit → Digit → Digit) → digit_by_digit f (digits c) (digits d) ≡ digit_by_digit f (digits a) (digits b)
pair_cut a b c d n least p q f =
    let wide_a = length-digits a in
    let wide_b = length-digits b in
    let first : digits c ≡ take n (digits a) = p ∙ cut_short n (digits a) (omega arith) in
    let second : digits d ≡ take n (digits b) = q ∙ cut_short n (digits b) (omega arith) in
    rw (first, second) (both_cut f n (digits a) (digits b) (omega arith))

-- the digits between two places, as far as there are any
pub part_is : (v r : Lv) (high low top : ℕ) → low ≤ high → low < v.width → top ≡ min high (v.width - 1) → digits r ≡ slice_range (digits v) low (top + 1) → digits r ≡ take (high + 1 - low) (drop low (digits v))
part_is v r high low top order inside least e = e ∙ ⊎_elim
    (λ (near : high < v.width). let same : top ≡ high = omega arith in ap (λ k. take (k + 1 - low) (drop low (digits v))) same)
    (λ (far : v.width ≤ high).
    let wide = length-digits v in
    let left = length-drop low (digits v) in
    take_all (top + 1 - low) (drop low (digits v)) (omega arith) ∙ sym (take_all (high + 1 - low) (drop low (digits v)) (omega arith)))
    (cases_lt high v.width)

pub no_part_between : (xs : List Digit) (high low : ℕ) → high < low → [] ≡ take (high + 1 - low) (drop low xs)
no_part_between xs high low h =
    let none : high + 1 - low ≡ 0 = omega arith in
    rw none refl

pub no_part_past : (v : Lv) (n low : ℕ) → v.width ≤ low → [] ≡ take n (drop low (digits v))
no_part_past v n low h =
    let wide = length-digits v in
    let none : drop low (digits v) ≡ [] = drop_of_length-le (digits v) (omega arith) in
    rw none (sym (take_all n [] (omega arith)))

-- two vectors as one, as far as there are places
first_joined : (a b : Lv) (room : ℕ) → b.width + room ≡ 64 → take 64 (digits b ++ digits a) ≡ digits b ++ take room (digits a)
first_joined a b room e =
    let wide = length-digits b in
    let whole : 64 ≡ length (digits b) + room = omega arith in
    ap (λ n. take n (digits b ++ digits a)) whole ∙ take-append-add (digits b) (digits a) room

pub joined_full : (a b : Lv) → 64 - b.width ≡ 0 → b ≡ lv_of (digits b ++ digits a)
joined_full a b full =
    let most = b.at_most_64 in
    is_first_64 b (digits b ++ digits a) (sym (first_joined a b 0 (omega arith) ∙ append-nil (digits b)))

pub joined_cut : (a b c r : Lv) (m : ℕ) → m ≡ min a.width (64 - b.width) → digits c ≡ resized m (digits a) → digits r ≡ digits b ++ digits c → r ≡ lv_of (digits b ++ digits a)
joined_cut a b c r m least p q =
    let most = b.at_most_64 in
    let wide = length-digits a in
    let is : m ≡ min (64 - b.width) (length (digits a)) = omega arith in
    let cut : digits c ≡ take (64 - b.width) (digits a) =
    p ∙ cut_short m (digits a) (omega arith) ∙ ap (λ n. take n (digits a)) is ∙ take_min (64 - b.width) (digits a) in
    is_first_64 r (digits b ++ digits a) (q ∙ ap (λ ds. digits b ++ ds) cut ∙ sym (first_joined a b (64 - b.width) (omega arith)))
