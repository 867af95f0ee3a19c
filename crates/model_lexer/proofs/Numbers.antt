-- What the loop over a number's digits keeps.
use Rattle.std.proofs.Common.{◌≡◌, ℕ, suc, ◌+◌, ◌*◌, ◌^◌, ◌<◌, ◌≤◌, List, [], ◌∷◌, length, drop, get_or, Some, None, ◌∙◌, refl, sym, ap, subst, ⊎_elim, arith}
use Rattle.std.specs.Prelude.{map}
use Rattle.std.specs.Char.{digit_value}
use Rattle.std.specs.Int.Digits.{number_from_digits_after}
use Rattle.std.specs.Str.Parse.{digits_value_after}
use Rattle.std.proofs.lemmas.Bool.{le-ltb, lt-ltb, cases_lt}
use Rattle.std.proofs.lemmas.List.{drop_all}
use Rattle.std.proofs.Math.Seq.{drop-cons}
use Rattle.std.proofs.lemmas.Int.Digits.{number_after_ge}
use Rattle.model_lexer.specs.Meanings.{number_within}

after_is : (b n : ℕ) (ds : List ℕ) → digits_value_after b n ds ≡ number_from_digits_after b n (map digit_value ds)
after_is b n [] = refl
after_is b n (d ∷ ds) = after_is b (n * b + digit_value d) ds

after_ge : (b n : ℕ) (ds : List ℕ) → 0 < b → n ≤ digits_value_after b n ds
after_ge b n ds h = let e = after_is b n ds in let k = number_after_ge b n (map digit_value ds) h in omega arith

pub within : (n : ℕ) → n < 2 ^ 64 → number_within n ≡ Some n
within n h = rw (lt-ltb n (2 ^ 64) h) refl

-- once what is read is past the range, so is the number
pub past : (b n d all : ℕ) (ds : List ℕ) → 0 < b → digits_value_after b n (d ∷ ds) ≡ all → 2 ^ 64 ≤ n * b + digit_value d → number_within all ≡ None
past b n d all ds h e k =
    let more : n * b + digit_value d ≤ digits_value_after b (n * b + digit_value d) ds = after_ge b (n * b + digit_value d) ds h in
    let big : 2 ^ 64 ≤ all = omega arith in
    rw (le-ltb all (2 ^ 64) big) refl

-- a turn's digit behind those read
split : (ds : List ℕ) (i : ℕ) → i < length ds → drop i ds ≡ get_or ds i 0 ∷ drop (suc i) ds
split ds i h = drop-cons ds i 0 h

least : (n m : ℕ) → (n < m → ⊥) → m ≤ n
least n m h = ⊎_elim (λ (k : n < m). absurd (h k)) (λ (k : m ≤ n). k) (cases_lt n m)

pub past_sum : (b n p all i : ℕ) (ds : List ℕ) → 0 < b → i < length ds → digits_value_after b n (drop i ds) ≡ all → n * b ≡ p → (p + digit_value (get_or ds i 0) < 2 ^ 64 → ⊥) → None ≡ number_within all
past_sum b n p all i ds h w e m k =
    let turn : digits_value_after b n (get_or ds i 0 ∷ drop (suc i) ds) ≡ all = ap (digits_value_after b n) (sym (split ds i w)) ∙ e in
    let big : 2 ^ 64 ≤ p + digit_value (get_or ds i 0) = least (p + digit_value (get_or ds i 0)) (2 ^ 64) k in
    let big' : 2 ^ 64 ≤ n * b + digit_value (get_or ds i 0) = subst (λ (x : ℕ). 2 ^ 64 ≤ x + digit_value (get_or ds i 0)) (sym m) big in
    sym (past b n (get_or ds i 0) all (drop (suc i) ds) h turn big')

pub past_product : (b n all i : ℕ) (ds : List ℕ) → 0 < b → i < length ds → digits_value_after b n (drop i ds) ≡ all → (n * b < 2 ^ 64 → ⊥) → None ≡ number_within all
past_product b n all i ds h w e k = past_sum b n (n * b) all i ds h w e refl (λ (j : n * b + digit_value (get_or ds i 0) < 2 ^ 64). k (omega arith))

pub all_read : (b n all i : ℕ) (ds : List ℕ) → length ds ≤ i → digits_value_after b n (drop i ds) ≡ all → n < 2 ^ 64 → Some n ≡ number_within all
all_read b n all i ds h e k =
    let same : n ≡ all = ap (digits_value_after b n) (sym (drop_all i ds h)) ∙ e in
    sym (within n k) ∙ ap number_within same
