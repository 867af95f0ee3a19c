-- Numbers in words, by what `parse` says of them.
use Rattle.std.proofs.Common.{◌≡◌, ℕ, ◌<◌, ◌^◌, ◌&&◌, List, [], ◌∷◌, true, None, Err, refl, ap, arith, ltb-true, inl, inr, length}
use Rattle.std.specs.Char.{is_ascii_digit}
use Rattle.std.specs.List.{list_all}
use Rattle.std.specs.Str.{all_ascii_digits}
use Rattle.std.specs.Str.Parse.{ParsesUnsigned, digits_value}
use Rattle.std.proofs.lemmas.Bool.{and_parts, cases_lt}
use Rattle.std.proofs.lemmas.Bool.Decides.{nat_tests}
use Rattle.std.proofs.lemmas.Str.Parse.{IsNumeralModel, numerals_by_value, parse_digits, tells_all_ascii_digits}
use Rattle.command_line.specs.Numbers.{between, is_decimal, number_in}

pub all_digits : (bs : List ℕ) → list_all is_ascii_digit bs ≡ all_ascii_digits bs
all_digits [] = refl
all_digits (b ∷ bs) = ap (λ rest. is_ascii_digit b && rest) (all_digits bs)

own : IsNumeralModel (λ ds. all_ascii_digits ds ≡ true) (digits_value 10)
own = numerals_by_value _ tells_all_ascii_digits

past : (least most n : ℕ) → most < n → None ≡ between least most n
past least most n h = grind (arith, nat_tests)

-- digits that were not read are past every range
pub number_not_parsed : {E : Type 0} (least most : ℕ) (e : E) (text : List ℕ) → is_decimal text ≡ true → most < 2 ^ 64 → ParsesUnsigned 64 10 text (Err e)
    → None ≡ number_in least most text
number_not_parsed least most e text decimal fits failed =
    let parts = and_parts _ _ decimal in
    let unread = parse_digits own 64 text (Err e) failed parts.1 in
    let some : 0 < length text = ltb-true _ _ parts.0 in
    let big : most < digits_value 10 text = elim (cases_lt (digits_value 10 text) (2 ^ 64)) [
      | inl under ↦ absurd (unread (some, under))
      | inr over ↦ omega arith
    ] in
    rw decimal (past least most (digits_value 10 text) big)
