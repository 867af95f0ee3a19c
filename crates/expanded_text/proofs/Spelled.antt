-- What a token that is written reads as.
use Rattle.std.proofs.Common.{◌≡◌, ℕ, suc, ◌+◌, ◌-◌, ◌%◌, ◌^◌, ◌<◌, Bool, true, false, ◌&&◌, List, [], ◌∷◌, ◌++◌, length, Option, Some, None, ◌∙◌, refl, ap, arith}
use Rattle.std.specs.Prelude.{not, ◌==◌, nat_lt, nat_le, is_none, map, reverse, if◌then◌else◌}
use Rattle.std.specs.List.{list_all}
use Rattle.std.specs.Fmt.{decimal}
use Rattle.std.specs.Str.Parse.{digits_value}
use Rattle.std.proofs.Math.Seq.{take-append_seam}
use Rattle.std.proofs.lemmas.Bool.{and_parts, and_from, ltb-true}
use Rattle.std.proofs.lemmas.Bool.Decides.{nat_tests}
use Rattle.std.proofs.lemmas.Fmt.{decimal_is_IsNumeral, decimal_by_steps}
use Rattle.std.proofs.lemmas.List.{length-append, length-map, length-reverse, reverse-reverse}
use Rattle.std.proofs.lemmas.List.Folds.{list_all-append}
use Rattle.model_tree.specs.LogicValues.declared.kinds.Digit.{Digit}
use Rattle.model_tree.specs.LogicValues.declared.kinds.Digit.TheVariants as digit
use Rattle.model_tree.specs.LogicValues.ValueText.{letter_of}
use Rattle.model_lexer.specs.ModelTree.declared.vocabulary.Word.{Word}
use Rattle.model_lexer.specs.ModelTree.declared.vocabulary.Word.TheVariants as w
use Rattle.model_lexer.specs.ModelTree.declared.vocabulary.Symbol.{Symbol}
use Rattle.model_lexer.specs.ModelTree.declared.vocabulary.Symbol.TheVariants as s
use Rattle.model_tree.specs.Vocabulary.{word_text, symbol_text, word_of}
use Rattle.model_tree.specs.Leaves.{is_letter, is_word_byte, is_word, is_name, is_print_byte, is_print_text}
use Rattle.model_tree.specs.Limits.{is_number}
use Rattle.model_lexer.specs.Tokens.{Token, name, number, logic, quoted, word, symbol, symbol_of, is_limited, word_or_name}
use Rattle.model_lexer.specs.Versions.{is_later_word, is_plain}
use Rattle.model_lexer.specs.declared.forms.Form.{Form}
use Rattle.model_lexer.specs.declared.forms.Form.TheVariants as form
use Rattle.model_lexer.specs.Forms.{is_digit, is_logic_byte, is_blank, is_comment, is_decimal, is_hexadecimal, closes, is_logic, is_text, form_of}
use Rattle.model_lexer.specs.Meanings.{logic_digit, inner, meaning}
use Rattle.model_lexer.proofs.Longest.{no_blank, no_comment, no_hexadecimal, letter_excludes, digit_excludes}
use Rattle.expanded_text.specs.Page.{between, spelled}
use Rattle.expanded_text.proofs.Blanks.{Stands, closes_past}

-- a byte that ends no line
abbrev pub is_inside : ℕ → Bool
is_inside b = not (b == 10)

-- before a blank these bytes read as this token, and they end no line
pub record IsSpelled (t : Token) (bytes : List ℕ) : Type 0 where
  pub form : Form
  pub stands : Stands bytes form
  pub meant : meaning form bytes ≡ Some t
  pub one_line : list_all is_inside bytes ≡ true

weaker : (p q : ℕ → Bool) → ((b : ℕ) → p b ≡ true → q b ≡ true) → (xs : List ℕ) → list_all p xs ≡ true → list_all q xs ≡ true
weaker p q f [] h = refl
weaker p q f (x ∷ xs) h = let both = and_parts (p x) (list_all p xs) h in and_from (q x) (list_all q xs) (f x both.0) (weaker p q f xs both.1)

-- by the first byte
stands_by : (b : ℕ) (bs : List ℕ) (f : Form) → form_of (b ∷ bs) ≡ Some f → (b == 47) ≡ false → (b == 34) ≡ false → Stands (b ∷ bs) f
stands_by b bs f e h k = record {
  formed = e;
  comment = λ xs. no_comment b (bs ++ 32 ∷ xs) h;
  text = λ xs. rw k refl;
}

form_word : (xs : List ℕ) → is_blank xs ≡ false → is_comment xs ≡ false → is_word xs ≡ true → form_of xs ≡ Some form.Word
form_word xs k c u = rw (k, c, u) refl

form_decimal : (xs : List ℕ) → is_blank xs ≡ false → is_comment xs ≡ false → is_word xs ≡ false → is_decimal xs ≡ true → form_of xs ≡ Some form.Decimal
form_decimal xs k c u d = rw (k, c, u, d) refl

form_logic : (xs : List ℕ) → is_blank xs ≡ false → is_comment xs ≡ false → is_word xs ≡ false → is_decimal xs ≡ false → is_hexadecimal xs ≡ false → is_logic xs ≡ true → form_of xs ≡ Some form.Logic
form_logic xs k c u d h l = rw (k, c, u, d, h, l) refl

form_text : (xs : List ℕ) → is_blank xs ≡ false → is_comment xs ≡ false → is_word xs ≡ false → is_decimal xs ≡ false → is_hexadecimal xs ≡ false → is_logic xs ≡ false → is_text xs ≡ true → form_of xs ≡ Some form.Text
form_text xs k c u d h l t = rw (k, c, u, d, h, l, t) refl

-- ---- words

word_formed : (u : Word) → form_of (word_text u) ≡ Some form.Word
word_formed w.Module = refl
word_formed _ = refl

word_comment : (u : Word) (xs : List ℕ) → is_comment (word_text u ++ 32 ∷ xs) ≡ false
word_comment w.Module xs = refl
word_comment _ xs = refl

word_no_text : (u : Word) (xs : List ℕ) → is_text (word_text u ++ 32 ∷ xs) ≡ false
word_no_text w.Module xs = refl
word_no_text _ xs = refl

word_inside : (u : Word) → list_all is_inside (word_text u) ≡ true
word_inside w.Module = refl
word_inside _ = refl

-- a word that language 2 has besides is cut as a name
abbrev as_cut : Word → Token
as_cut u = if is_later_word u then name (word_text u) else word u

word_meant : (u : Word) → word_or_name (word_of (word_text u)) (word_text u) ≡ Some (as_cut u)
unfolding word_of
word_meant w.Module = refl
word_meant _ = refl

earlier : (b : Bool) (x y : Token) → not b ≡ true → (if b then x else y) ≡ y
earlier true x y h = cc
earlier false x y h = refl

word_spelled : (u : Word) → is_plain (word u) ≡ true → IsSpelled (word u) (word_text u)
word_spelled u plain = record {
  form = form.Word;
  stands = record { formed = word_formed u; comment = word_comment u; text = word_no_text u };
  meant = word_meant u ∙ ap Some (earlier (is_later_word u) (name (word_text u)) (word u) plain);
  one_line = word_inside u;
}

-- ---- names

no_word : (o : Option Word) → is_none o ≡ true → o ≡ None
no_word None h = refl
no_word (Some x) h = cc

name_stands : (x : List ℕ) → is_word x ≡ true → Stands x form.Word
name_stands [] h = cc
name_stands (b ∷ bs) h =
    let both = and_parts (is_letter b) (list_all is_word_byte bs) h in
    let x = letter_excludes b both.0 in
    stands_by b bs form.Word (form_word (b ∷ bs) (no_blank b bs x.0) (no_comment b bs x.1) h) x.1 x.5

word_byte_inside : (b : ℕ) → is_word_byte b ≡ true → is_inside b ≡ true
word_byte_inside b h = let e : (b == 10) ≡ false = grind (arith, nat_tests) in rw e refl

letter_inside : (b : ℕ) → is_letter b ≡ true → is_inside b ≡ true
letter_inside b h = let e : (b == 10) ≡ false = grind (arith, nat_tests) in rw e refl

name_inside : (x : List ℕ) → is_word x ≡ true → list_all is_inside x ≡ true
name_inside [] h = refl
name_inside (b ∷ bs) h =
    let both = and_parts (is_letter b) (list_all is_word_byte bs) h in
    and_from (is_inside b) (list_all is_inside bs) (letter_inside b both.0) (weaker is_word_byte is_inside word_byte_inside bs both.1)

name_spelled : (x : List ℕ) → is_name x ≡ true → IsSpelled (name x) x
name_spelled x h =
    let both = and_parts (is_word x && nat_le (length x) 64) (is_none (word_of x)) h in
    let formed = and_parts (is_word x) (nat_le (length x) 64) both.0 in
    record {
      form = form.Word;
      stands = name_stands x formed.0;
      meant = rw (no_word (word_of x) both.1, h) refl;
      one_line = name_inside x formed.0;
    }

-- ---- numbers

digit_byte : (d : ℕ) → d < 10 → is_digit (48 + d) ≡ true
digit_byte d k = grind (arith, nat_tests)

all_digits : (n : ℕ) → n < 2 ^ 64 → list_all is_digit (decimal n) ≡ true
all_digits n h =
    decimal_by_steps (λ _ ds. list_all is_digit ds ≡ true)
    (λ d k. rw (digit_byte d k) refl)
    (λ d ds k a.
    let small : d % 10 < 10 = omega arith in
    rw (list_all-append is_digit ds ((48 + d % 10) ∷ []), a, digit_byte (d % 10) small) refl)
    n h

digit_inside : (b : ℕ) → is_digit b ≡ true → is_inside b ≡ true
digit_inside b h = let e : (b == 10) ≡ false = grind (arith, nat_tests) in rw e refl

digits_stand : (ds : List ℕ) → 0 < length ds → list_all is_digit ds ≡ true → Stands ds form.Decimal
digits_stand [] some h = absurd (omega arith)
digits_stand (b ∷ bs) some h =
    let both = and_parts (is_digit b) (list_all is_digit bs) h in
    let x = digit_excludes b both.0 in
    stands_by b bs form.Decimal (form_decimal (b ∷ bs) (no_blank b bs x.0) (no_comment b bs x.1) (rw x.2 refl) h) x.1 x.4

number_spelled : (n : ℕ) → is_number n ≡ true → IsSpelled (number n) (decimal n)
number_spelled n k =
    let small : n < 2 ^ 64 = ltb-true n (2 ^ 64) k in
    let numeral = decimal_is_IsNumeral n small in
    let value : digits_value 10 (decimal n) ≡ n = numeral.1 in
    record {
      form = form.Decimal;
      stands = digits_stand (decimal n) numeral.0.0 (all_digits n small);
      meant = rw (value, k) refl;
      one_line = weaker is_digit is_inside digit_inside (decimal n) (all_digits n small);
    }

-- ---- what stands between quotes

closes_all : (p : ℕ → Bool) (quote : ℕ) → (quote == quote) ≡ true → (xs : List ℕ) → list_all p xs ≡ true → closes p quote (xs ++ quote ∷ []) ≡ true
closes_all p quote e [] h = e
closes_all p quote e (x ∷ []) h = and_from (p x) (closes p quote (quote ∷ [])) (and_parts (p x) true h).0 e
closes_all p quote e (x ∷ y ∷ xs) h =
    let both = and_parts (p x) (list_all p (y ∷ xs)) h in
    and_from (p x) (closes p quote (y ∷ xs ++ quote ∷ [])) both.0 (closes_all p quote e (y ∷ xs) both.1)

inner_between : (quote : ℕ) (xs : List ℕ) → inner (between quote xs) ≡ xs
inner_between quote xs =
    let size : suc (length (xs ++ quote ∷ [])) - 2 ≡ length xs = omega (arith, length-append xs (quote ∷ [])) in
    rw size (take-append_seam xs (quote ∷ []))

between_inside : (quote : ℕ) (xs : List ℕ) → is_inside quote ≡ true → list_all is_inside xs ≡ true → list_all is_inside (between quote xs) ≡ true
between_inside quote xs q h =
    and_from (is_inside quote) (list_all is_inside (xs ++ quote ∷ [])) q (list_all-append is_inside xs (quote ∷ []) ∙ and_from (list_all is_inside xs) (is_inside quote && true) h (and_from (is_inside quote) true q refl))

letters_logic : (ds : List Digit) → list_all is_logic_byte (map letter_of ds) ≡ true
letters_logic [] = refl
letters_logic (digit.Zero ∷ ds) = letters_logic ds
letters_logic (_ ∷ ds) = letters_logic ds

logic_inside : (b : ℕ) → is_logic_byte b ≡ true → is_inside b ≡ true
logic_inside b h = let e : (b == 10) ≡ false = grind (arith, nat_tests) in rw e refl

letters_read : (ds : List Digit) → map logic_digit (map letter_of ds) ≡ ds
letters_read [] = refl
letters_read (d ∷ ds) = rw (one d, letters_read ds) refl
  where
    one : (d : Digit) → logic_digit (letter_of d) ≡ d
    one digit.Zero = refl
    one _ = refl

logic_stands : (xs : List ℕ) → list_all is_logic_byte xs ≡ true → Stands (between 39 xs) form.Logic
logic_stands xs h =
    stands_by 39 (xs ++ 39 ∷ []) form.Logic
    (form_logic (between 39 xs) (no_blank 39 (xs ++ 39 ∷ []) refl) (no_comment 39 (xs ++ 39 ∷ []) refl) refl refl (no_hexadecimal 39 (xs ++ 39 ∷ []) refl) (closes_all is_logic_byte 39 refl xs h)) refl refl

logic_spelled : (ds : List Digit) → (nat_lt 0 (length ds) && nat_le (length ds) 64) ≡ true → IsSpelled (logic ds) (spelled (logic ds))
logic_spelled ds k =
    let size : length (map letter_of (reverse ds)) ≡ length ds = length-map (reverse ds) letter_of ∙ length-reverse ds in
    let read : reverse (map logic_digit (map letter_of (reverse ds))) ≡ ds = ap reverse (letters_read (reverse ds)) ∙ reverse-reverse ds in
    record {
      form = form.Logic;
      stands = logic_stands (map letter_of (reverse ds)) (letters_logic (reverse ds));
      meant = rw (inner_between 39 (map letter_of (reverse ds)), size, k, read) refl;
      one_line = between_inside 39 (map letter_of (reverse ds)) refl (weaker is_logic_byte is_inside logic_inside (map letter_of (reverse ds)) (letters_logic (reverse ds)));
    }

print_inside : (b : ℕ) → is_print_byte b ≡ true → is_inside b ≡ true
print_inside b h = let e : (b == 10) ≡ false = grind (arith, nat_tests) in rw e refl

text_stands : (xs : List ℕ) → list_all is_print_byte xs ≡ true → Stands (between 34 xs) form.Text
text_stands xs h = record {
  formed = form_text (between 34 xs) (no_blank 34 (xs ++ 34 ∷ []) refl) (no_comment 34 (xs ++ 34 ∷ []) refl) refl refl (no_hexadecimal 34 (xs ++ 34 ∷ []) refl) refl (closes_all is_print_byte 34 refl xs h);
  comment = λ ys. no_comment 34 ((xs ++ 34 ∷ []) ++ 32 ∷ ys) refl;
  text = λ ys. closes_past is_print_byte 34 refl xs ys;
}

text_spelled : (x : List ℕ) → is_print_text x ≡ true → IsSpelled (quoted x) (spelled (quoted x))
text_spelled x k =
    let both = and_parts (list_all is_print_byte x) (nat_le (length x) 120) k in
    record {
      form = form.Text;
      stands = text_stands x both.0;
      meant = rw (inner_between 34 x, k) refl;
      one_line = between_inside 34 x refl (weaker is_print_byte is_inside print_inside x both.0);
    }

-- ---- symbols

symbol_formed : (u : Symbol) → form_of (symbol_text u) ≡ Some form.Symbol
unfolding symbol_of
symbol_formed s.LessEqual = refl
symbol_formed _ = refl

symbol_meant : (u : Symbol) → meaning form.Symbol (symbol_text u) ≡ Some (symbol u)
unfolding symbol_of
symbol_meant s.LessEqual = refl
symbol_meant _ = refl

symbol_comment : (u : Symbol) (xs : List ℕ) → is_comment (symbol_text u ++ 32 ∷ xs) ≡ false
symbol_comment s.LessEqual xs = refl
symbol_comment _ xs = refl

symbol_no_text : (u : Symbol) (xs : List ℕ) → is_text (symbol_text u ++ 32 ∷ xs) ≡ false
symbol_no_text s.LessEqual xs = refl
symbol_no_text _ xs = refl

symbol_inside : (u : Symbol) → list_all is_inside (symbol_text u) ≡ true
symbol_inside s.LessEqual = refl
symbol_inside _ = refl

symbol_spelled : (u : Symbol) → IsSpelled (symbol u) (symbol_text u)
symbol_spelled u = record {
  form = form.Symbol;
  stands = record { formed = symbol_formed u; comment = symbol_comment u; text = symbol_no_text u };
  meant = symbol_meant u;
  one_line = symbol_inside u;
}

-- each token within its limits that a text may be cut into
pub token_spelled : (t : Token) → is_limited t ≡ true → is_plain t ≡ true → IsSpelled t (spelled t)
token_spelled (name x) limited plain = name_spelled x limited
token_spelled (number n) limited plain = number_spelled n limited
token_spelled (logic ds) limited plain = logic_spelled ds limited
token_spelled (quoted x) limited plain = text_spelled x limited
token_spelled (word u) limited plain = word_spelled u plain
token_spelled (symbol u) limited plain = symbol_spelled u
