-- That no bytes have two forms.
use Rattle.std.proofs.Common.{◌≡◌, ℕ, ◌+◌, ◌≤◌, Bool, true, false, ◌&&◌, cond, List, [], ◌∷◌, refl, sym, subst, ⊎_elim, arith}
use Rattle.std.specs.Prelude.{is_some, ◌==◌, count_by}
use Rattle.std.specs.List.{list_all}
use Rattle.std.proofs.lemmas.Bool.{cases_Bool, eqb-true, and_parts}
use Rattle.std.proofs.lemmas.Bool.Decides.{nat_tests}
use Rattle.model_tree.specs.Leaves.{is_letter, is_word}
use Rattle.model_lexer.specs.Tokens.{symbol_of}
use Rattle.model_lexer.specs.Forms.{is_blank_byte, is_comment_byte, is_digit, is_hex_digit, is_blank, is_comment, is_decimal, is_hexadecimal, is_logic, is_text, tests}
use Rattle.model_lexer.specs.Fronts.{opens_comment}
use Rattle.model_lexer.proofs.Longest.{no_blank, no_comment, no_hexadecimal, no_symbol_from, no_symbol_comment, letter_excludes, digit_excludes, blank_excludes}

abbrev total : Bool → Bool → Bool → Bool → Bool → Bool → Bool → Bool → ℕ
total k c w d h l t s = 0 + cond k 1 0 + cond c 1 0 + cond w 1 0 + cond d 1 0 + cond h 1 0 + cond l 1 0 + cond t 1 0 + cond s 1 0

passed_by : (xs : List ℕ) (k c w d h l t s : Bool) → is_blank xs ≡ k → is_comment xs ≡ c → is_word xs ≡ w → is_decimal xs ≡ d → is_hexadecimal xs ≡ h → is_logic xs ≡ l → is_text xs ≡ t → is_some (symbol_of xs) ≡ s → total k c w d h l t s ≤ 1 → count_by (λ test. test xs) tests ≤ 1
passed_by xs k c w d h l t s ek ec ew ed eh el et es few = rw (ek, ec, ew, ed, eh, el, et, es) few

few : (b : Bool) → cond b 1 0 ≤ 1
few true = omega arith
few false = omega arith

hexadecimal_no_decimal : (xs : List ℕ) → is_hexadecimal xs ≡ true → is_decimal xs ≡ false
hexadecimal_no_decimal [] h = cc
hexadecimal_no_decimal (a ∷ []) h = cc
hexadecimal_no_decimal (a ∷ b ∷ []) h = cc
hexadecimal_no_decimal (a ∷ b ∷ c ∷ bs) h =
    let one = and_parts ((a == 48) && (b == 120)) (is_hex_digit c && list_all is_hex_digit bs) h in
    let two = and_parts (a == 48) (b == 120) one.0 in
    let first : 48 ≡ a = sym (eqb-true a 48 two.0) in
    let second : 120 ≡ b = sym (eqb-true b 120 two.1) in
    subst (λ (x : ℕ). is_decimal (x ∷ b ∷ c ∷ bs) ≡ false) first (subst (λ (x : ℕ). is_decimal (48 ∷ x ∷ c ∷ bs) ≡ false) second refl)

comment_opens : (xs : List ℕ) → is_comment xs ≡ true → opens_comment xs ≡ true
comment_opens [] h = cc
comment_opens (a ∷ []) h = cc
comment_opens (a ∷ b ∷ bs) h = (and_parts ((a == 47) && (b == 47)) (list_all is_comment_byte bs) h).0

letter_few : (b : ℕ) (bs : List ℕ) → is_letter b ≡ true → count_by (λ test. test (b ∷ bs)) tests ≤ 1
letter_few b bs l =
    let x = letter_excludes b l in
    let one = few (is_word (b ∷ bs)) in
    passed_by (b ∷ bs) false false (is_word (b ∷ bs)) false false false false false (no_blank b bs x.0) (no_comment b bs x.1) refl (rw x.2 refl) (no_hexadecimal b bs x.3) (rw x.4 refl) (rw x.5 refl) (no_symbol_from b bs (rw l refl)) (omega arith)

digit_few : (b : ℕ) (bs : List ℕ) → is_digit b ≡ true → count_by (λ test. test (b ∷ bs)) tests ≤ 1
digit_few b bs l =
    let x = digit_excludes b l in
    ⊎_elim
    (λ (h : is_hexadecimal (b ∷ bs) ≡ true). passed_by (b ∷ bs) false false false false true false false false (no_blank b bs x.0) (no_comment b bs x.1) (rw x.2 refl) (hexadecimal_no_decimal (b ∷ bs) h) h (rw x.3 refl) (rw x.4 refl) (no_symbol_from b bs (rw (x.2, l) refl)) (omega arith))
    (λ (h : is_hexadecimal (b ∷ bs) ≡ false).
    let one = few (is_decimal (b ∷ bs)) in
    passed_by (b ∷ bs) false false false (is_decimal (b ∷ bs)) false false false false (no_blank b bs x.0) (no_comment b bs x.1) (rw x.2 refl) refl h (rw x.3 refl) (rw x.4 refl) (no_symbol_from b bs (rw (x.2, l) refl)) (omega arith))
    (cases_Bool (is_hexadecimal (b ∷ bs)))

blank_few : (b : ℕ) (bs : List ℕ) → is_blank_byte b ≡ true → count_by (λ test. test (b ∷ bs)) tests ≤ 1
blank_few b bs l =
    let x = blank_excludes b l in
    let one = few (is_blank (b ∷ bs)) in
    passed_by (b ∷ bs) (is_blank (b ∷ bs)) false false false false false false false refl (no_comment b bs x.0) (rw x.1 refl) (rw x.2 refl) (no_hexadecimal b bs x.3) (rw x.4 refl) (rw x.5 refl) (no_symbol_from b bs (rw (x.1, x.2, x.4, x.5, l) refl)) (omega arith)

logic_few : (bs : List ℕ) → count_by (λ test. test (39 ∷ bs)) tests ≤ 1
logic_few bs =
    let one = few (is_logic (39 ∷ bs)) in
    passed_by (39 ∷ bs) false false false false false (is_logic (39 ∷ bs)) false false (no_blank 39 bs refl) (no_comment 39 bs refl) refl refl (no_hexadecimal 39 bs refl) refl refl (no_symbol_from 39 bs refl) (omega arith)

text_few : (bs : List ℕ) → count_by (λ test. test (34 ∷ bs)) tests ≤ 1
text_few bs =
    let one = few (is_text (34 ∷ bs)) in
    passed_by (34 ∷ bs) false false false false false false (is_text (34 ∷ bs)) false (no_blank 34 bs refl) (no_comment 34 bs refl) refl refl (no_hexadecimal 34 bs refl) refl refl (no_symbol_from 34 bs refl) (omega arith)

other_few : (b : ℕ) (bs : List ℕ) → is_letter b ≡ false → is_digit b ≡ false → (b == 39) ≡ false → (b == 34) ≡ false → is_blank_byte b ≡ false → count_by (λ test. test (b ∷ bs)) tests ≤ 1
other_few b bs letter digit single double blank =
    let zero_apart : (b == 48) ≡ false = grind (arith, nat_tests) in
    ⊎_elim
    (λ (h : is_comment (b ∷ bs) ≡ true). passed_by (b ∷ bs) false true false false false false false false (no_blank b bs blank) h (rw letter refl) (rw digit refl) (no_hexadecimal b bs zero_apart) (rw single refl) (rw double refl) (no_symbol_comment (b ∷ bs) (comment_opens (b ∷ bs) h)) (omega arith))
    (λ (h : is_comment (b ∷ bs) ≡ false).
    let one = few (is_some (symbol_of (b ∷ bs))) in
    passed_by (b ∷ bs) false false false false false false false (is_some (symbol_of (b ∷ bs))) (no_blank b bs blank) h (rw letter refl) (rw digit refl) (no_hexadecimal b bs zero_apart) (rw single refl) (rw double refl) refl (omega arith))
    (cases_Bool (is_comment (b ∷ bs)))

pub one_form : (bytes : List ℕ) → count_by (λ test. test bytes) tests ≤ 1
one_form [] =
    let one = few (is_some (symbol_of [])) in
    passed_by [] false false false false false false false (is_some (symbol_of [])) refl refl refl refl refl refl refl refl (omega arith)
one_form (b ∷ bs) =
    ⊎_elim (λ (l : is_letter b ≡ true). letter_few b bs l) (λ (l : is_letter b ≡ false).
    ⊎_elim (λ (d : is_digit b ≡ true). digit_few b bs d) (λ (d : is_digit b ≡ false).
    ⊎_elim (λ (s : (b == 39) ≡ true). subst (λ (x : ℕ). count_by (λ test. test (x ∷ bs)) tests ≤ 1) (sym (eqb-true b 39 s)) (logic_few bs)) (λ (s : (b == 39) ≡ false).
    ⊎_elim (λ (q : (b == 34) ≡ true). subst (λ (x : ℕ). count_by (λ test. test (x ∷ bs)) tests ≤ 1) (sym (eqb-true b 34 q)) (text_few bs)) (λ (q : (b == 34) ≡ false).
    ⊎_elim (λ (k : is_blank_byte b ≡ true). blank_few b bs k) (λ (k : is_blank_byte b ≡ false). other_few b bs l d s q k)
    (cases_Bool (is_blank_byte b))) (cases_Bool (b == 34))) (cases_Bool (b == 39))) (cases_Bool (is_digit b))) (cases_Bool (is_letter b))
