-- Bytes that have a form, and a blank behind them: no longer front has one.
use Rattle.std.proofs.Common.{◌≡◌, ℕ, zero, suc, ◌<◌, Bool, true, false, ◌&&◌, List, [], ◌∷◌, ◌++◌, length, take, Option, Some, None, ◌∙◌, refl, sym, ap, subst, arith}
use Rattle.std.specs.Prelude.{is_some, not, ◌==◌}
use Rattle.std.specs.List.{list_all}
use Rattle.std.proofs.Math.Seq.{take-append_seam}
use Rattle.std.proofs.lemmas.Bool.{and_left, and_right}
use Rattle.std.proofs.lemmas.List.{length-append}
use Rattle.model_lexer.specs.ModelTree.declared.vocabulary.Symbol.{Symbol}
use Rattle.model_lexer.specs.ModelTree.declared.vocabulary.Symbol.TheVariants as s
use Rattle.model_tree.specs.Vocabulary.{symbol_text}
use Rattle.model_tree.specs.Leaves.{is_letter, is_word_byte, is_word}
use Rattle.model_lexer.specs.Tokens.{symbol_of}
use Rattle.model_lexer.specs.declared.forms.Form.{Form}
use Rattle.model_lexer.specs.Forms.{is_digit, is_hex_digit, is_logic_byte, is_blank, is_comment, is_decimal, is_hexadecimal, closes, is_logic, is_text, form_of}
use Rattle.model_lexer.specs.Cut.{IsPiece}
use Rattle.model_lexer.proofs.Symbols.{symbol_of_spells}
use Rattle.model_lexer.proofs.Longest.{nothing_formless}

-- ---- a blank inside

all_stops : (p : ℕ → Bool) → p 32 ≡ false → (xs ys : List ℕ) → list_all p (xs ++ 32 ∷ ys) ≡ false
all_stops p h [] ys = and_left (p 32) (list_all p ys) h
all_stops p h (x ∷ xs) ys = and_right (p x) (list_all p (xs ++ 32 ∷ ys)) (all_stops p h xs ys)

closes_stops : (p : ℕ → Bool) (quote : ℕ) → p 32 ≡ false → (32 == quote) ≡ false → (xs ys : List ℕ) → closes p quote (xs ++ 32 ∷ ys) ≡ false
closes_stops p quote h k [] [] = k
closes_stops p quote h k [] (y ∷ ys) = and_left (p 32) (closes p quote (y ∷ ys)) h
closes_stops p quote h k (x ∷ []) ys = and_right (p x) (closes p quote (32 ∷ ys)) (closes_stops p quote h k [] ys)
closes_stops p quote h k (x ∷ z ∷ xs) ys = and_right (p x) (closes p quote (z ∷ xs ++ 32 ∷ ys)) (closes_stops p quote h k (z ∷ xs) ys)

-- a quote closes what is between two, and nothing more
pub closes_past : (p : ℕ → Bool) (quote : ℕ) → p quote ≡ false → (xs ys : List ℕ) → closes p quote ((xs ++ quote ∷ []) ++ 32 ∷ ys) ≡ false
closes_past p quote h [] ys = and_left (p quote) (closes p quote (32 ∷ ys)) h
closes_past p quote h (x ∷ []) ys = and_right (p x) (closes p quote (quote ∷ 32 ∷ ys)) (closes_past p quote h [] ys)
closes_past p quote h (x ∷ z ∷ xs) ys = and_right (p x) (closes p quote ((z ∷ xs ++ quote ∷ []) ++ 32 ∷ ys)) (closes_past p quote h (z ∷ xs) ys)

blank_stops : (b : ℕ) (xs ys : List ℕ) → is_blank ((b ∷ xs) ++ 32 ∷ ys) ≡ false
blank_stops b [] ys = refl
blank_stops b (x ∷ xs) ys = refl

word_stops : (b : ℕ) (xs ys : List ℕ) → is_word ((b ∷ xs) ++ 32 ∷ ys) ≡ false
word_stops b xs ys = and_right (is_letter b) (list_all is_word_byte (xs ++ 32 ∷ ys)) (all_stops is_word_byte refl xs ys)

decimal_stops : (b : ℕ) (xs ys : List ℕ) → is_decimal ((b ∷ xs) ++ 32 ∷ ys) ≡ false
decimal_stops b xs ys = and_right (is_digit b) (list_all is_digit (xs ++ 32 ∷ ys)) (all_stops is_digit refl xs ys)

hexadecimal_stops : (b : ℕ) (xs ys : List ℕ) → is_hexadecimal ((b ∷ xs) ++ 32 ∷ ys) ≡ false
hexadecimal_stops b [] [] = refl
hexadecimal_stops b [] (y ∷ ys) = and_left ((b == 48) && false) (is_hex_digit y && list_all is_hex_digit ys) (and_right (b == 48) false refl)
hexadecimal_stops b (x ∷ []) ys = and_right ((b == 48) && (x == 120)) (is_hex_digit 32 && list_all is_hex_digit ys) refl
hexadecimal_stops b (x ∷ z ∷ xs) ys =
    and_right ((b == 48) && (x == 120)) (is_hex_digit z && list_all is_hex_digit (xs ++ 32 ∷ ys))
    (and_right (is_hex_digit z) (list_all is_hex_digit (xs ++ 32 ∷ ys)) (all_stops is_hex_digit refl xs ys))

logic_stops : (b : ℕ) (xs ys : List ℕ) → is_logic ((b ∷ xs) ++ 32 ∷ ys) ≡ false
logic_stops b xs ys = and_right (b == 39) (closes is_logic_byte 39 (xs ++ 32 ∷ ys)) (closes_stops is_logic_byte 39 refl refl xs ys)

abbrev is_no_blank : ℕ → Bool
is_no_blank b = not (b == 32)

symbol_seen : (u : Symbol) → list_all is_no_blank (symbol_text u) ≡ true
symbol_seen s.LessEqual = refl
symbol_seen _ = refl

no_value : {X : Type 0} (o : Option X) → ((x : X) → o ≡ Some x → ⊥) → is_some o ≡ false
no_value None f = refl
no_value (Some x) f = absurd (f x refl)

symbol_stops : (xs ys : List ℕ) → is_some (symbol_of (xs ++ 32 ∷ ys)) ≡ false
symbol_stops xs ys =
    no_value (symbol_of (xs ++ 32 ∷ ys)) (λ u e.
    let seen : list_all is_no_blank (symbol_text u) ≡ true = symbol_seen u in
    let same : list_all is_no_blank (symbol_text u) ≡ list_all is_no_blank (xs ++ 32 ∷ ys) = ap (list_all is_no_blank) (symbol_of_spells (xs ++ 32 ∷ ys) u e) in
    let none : list_all is_no_blank (xs ++ 32 ∷ ys) ≡ false = all_stops is_no_blank refl xs ys in
    let no : ⊥ = cc in no)

-- ---- the longest front

formless : (xs : List ℕ) → is_blank xs ≡ false → is_comment xs ≡ false → is_word xs ≡ false → is_decimal xs ≡ false → is_hexadecimal xs ≡ false
    → is_logic xs ≡ false → is_text xs ≡ false → is_some (symbol_of xs) ≡ false → form_of xs ≡ None
formless xs k c w d h l t u = rw (k, c, w, d, h, l, t, u) refl

-- the bytes have this form, and with a blank and more behind them they are neither a comment nor a text
pub record Stands (w : List ℕ) (f : Form) : Type 0 where
  pub formed : form_of w ≡ Some f
  pub comment : (xs : List ℕ) → is_comment (w ++ 32 ∷ xs) ≡ false
  pub text : (xs : List ℕ) → is_text (w ++ 32 ∷ xs) ≡ false

longer : (w xs : List ℕ) (f : Form) → Stands w f → form_of (w ++ 32 ∷ xs) ≡ None
longer [] xs f st = let no : None ≡ Some f = sym nothing_formless ∙ st.formed in cc
longer (b ∷ w) xs f st =
    formless ((b ∷ w) ++ 32 ∷ xs) (blank_stops b w xs) (st.comment xs) (word_stops b w xs) (decimal_stops b w xs) (hexadecimal_stops b w xs) (logic_stops b w xs) (st.text xs) (symbol_stops (b ∷ w) xs)

longer_front : (w r : List ℕ) (m : ℕ) → length w < m → (xs : List ℕ) × (take m (w ++ 32 ∷ r) ≡ w ++ 32 ∷ xs)
longer_front [] r zero h = absurd (omega arith)
longer_front [] r (suc m) h = (take m r, refl)
longer_front (b ∷ w) r zero h = absurd (omega arith)
longer_front (b ∷ w) r (suc m) h = let (xs, e) = longer_front w r m (omega arith) in (xs, ap (λ (x : List ℕ). b ∷ x) e)

pub piece_stands : (w r : List ℕ) (f : Form) → Stands w f → IsPiece (w ++ 32 ∷ r) f (length w)
piece_stands w r f st = record {
  within = omega (arith, length-append w (32 ∷ r));
  formed = subst (λ (x : List ℕ). form_of x ≡ Some f) (sym (take-append_seam w (32 ∷ r))) st.formed;
  longest = λ m h k. let (xs, e) = longer_front w r m h in subst (λ (x : List ℕ). form_of x ≡ None) (sym e) (longer w xs f st);
}
