-- The token at the front of bytes that a printed token begins.
use Rattle.std.proofs.Common.{◌≡◌, ℕ, suc, ◌+◌, ◌-◌, ◌%◌, ◌^◌, ◌<◌, Bool, true, false, ◌&&◌, ◌||◌, List, [], ◌∷◌, ◌++◌, length, get_or, codes, Option, Some, None, ◌∙◌, refl, ap, append_assoc, arith}
use Rattle.std.specs.Prelude.{not, ◌==◌, nat_lt, nat_le, is_none, map, reverse, slice_get}
use Rattle.std.specs.List.{list_all, prefix_len}
use Rattle.std.specs.Fmt.{decimal}
use Rattle.std.specs.Str.Parse.{digits_value}
use Rattle.std.proofs.Math.Numerals.{one-add}
use Rattle.std.proofs.Math.Seq.{take-append_seam}
use Rattle.std.proofs.lemmas.List.{length-append, length-map, length-reverse, reverse-reverse}
use Rattle.std.proofs.lemmas.Fmt.{decimal_is_IsNumeral, decimal_by_steps}
use Rattle.std.proofs.lemmas.Bool.{and_parts, ltb-true, eq-eqb}
use Rattle.std.proofs.lemmas.Bool.Decides.{nat_tests}
use Rattle.model_print.specs.LogicValues.declared.kinds.Digit.{Digit}
use Rattle.model_print.specs.LogicValues.declared.kinds.Digit.TheVariants as digit
use Rattle.model_print.specs.LogicValues.ValueText.{letter_of}
use Rattle.model_print.specs.ModelTree.declared.vocabulary.Word.{Word}
use Rattle.model_print.specs.ModelTree.declared.vocabulary.Word.TheVariants as w
use Rattle.model_print.specs.ModelTree.declared.vocabulary.Symbol.{Symbol}
use Rattle.model_print.specs.ModelTree.declared.vocabulary.Symbol.TheVariants as s
use Rattle.model_print.specs.ModelTree.Vocabulary.{word_text, symbol_text, word_of}
use Rattle.model_print.specs.ModelTree.Leaves.{is_letter, is_word_byte, is_word, is_name, is_print_byte, is_print_text}
use Rattle.model_print.specs.ModelTree.Limits.{is_number}
use Rattle.model_lexer.specs.Tokens.{Token, name, number, logic, quoted, word, symbol, symbol_of, word_or_name}
use Rattle.model_lexer.proofs.Symbols.{symbol_of_spells}
use Rattle.model_lexer.specs.declared.forms.Form.{Form}
use Rattle.model_lexer.specs.declared.forms.Form.TheVariants as form
use Rattle.model_lexer.specs.Forms.{is_digit, is_hex_digit, is_logic_byte, is_decimal, is_blank_byte}
use Rattle.model_lexer.specs.Meanings.{logic_digit, inner}
use Rattle.model_lexer.specs.Fronts.{piece_at, piece, opens_hexadecimal, closed_at}
use Rattle.model_lexer.proofs.Longest.{digit_excludes}
use Rattle.laws_texts.proofs.Reading.{as_cut, ReadsAs, reads_front}

-- whether bytes begin with one that passes the test
abbrev pub begins : (ℕ → Bool) → List ℕ → Bool
begins p [] = false
begins p (b ∷ bs) = p b

-- the second byte of a symbol of two, or of what opens a comment
abbrev pub is_second : ℕ → Bool
is_second b = (((b == 60) || (b == 61)) || ((b == 62) || (b == 38))) || ((b == 124) || (b == 47))

-- a run of bytes ends where none goes on with it
pub run : (p : ℕ → Bool) (w r : List ℕ) → list_all p w ≡ true → begins p r ≡ false → prefix_len p (w ++ r) ≡ length w
run p [] [] h k = refl
run p [] (b ∷ r) h k = rw k refl
run p (x ∷ w) r h k =
    let both = and_parts (p x) (list_all p w) h in
    rw (both.0, run p w r both.1 k, one-add) refl

-- words
word_found : (b : ℕ) (bs r : List ℕ) → is_letter b ≡ true → list_all is_word_byte bs ≡ true → begins is_word_byte r ≡ false → piece_at ((b ∷ bs) ++ r) ≡ Some (piece form.Word (length (b ∷ bs)))
word_found b bs r l h k = rw (l, run is_word_byte bs r h k, one-add) refl

word_meant : (x : Word) → word_or_name (word_of (word_text x)) (word_text x) ≡ Some (as_cut (word x))
unfolding word_of
word_meant w.Module = refl
word_meant _ = refl

pub word_formed : (x : Word) → is_word (word_text x) ≡ true
word_formed w.Module = refl
word_formed _ = refl

word_front : (bs r : List ℕ) → is_word bs ≡ true → begins is_word_byte r ≡ false → piece_at (bs ++ r) ≡ Some (piece form.Word (length bs))
word_front [] r h k = cc
word_front (b ∷ bs) r h k = let both = and_parts (is_letter b) (list_all is_word_byte bs) h in word_found b bs r both.0 both.1 k

pub reads_word : (x : Word) (r : List ℕ) (ts : List Token) → begins is_word_byte r ≡ false → ReadsAs r ts → ReadsAs (word_text x ++ r) (as_cut (word x) ∷ ts)
reads_word x r ts k h = reads_front (word_text x) r form.Word (as_cut (word x)) ts (word_front (word_text x) r (word_formed x) k) (word_meant x) h

-- names
no_word : (o : Option Word) → is_none o ≡ true → o ≡ None
no_word None h = refl
no_word (Some x) h = cc

pub name_parts : (x : List ℕ) → is_name x ≡ true → (is_word x ≡ true) × (word_of x ≡ None)
name_parts x h =
    let both = and_parts (is_word x && nat_le (length x) 64) (is_none (word_of x)) h in
    ((and_parts (is_word x) (nat_le (length x) 64) both.0).0, no_word (word_of x) both.1)

pub reads_name : (x : List ℕ) (r : List ℕ) (ts : List Token) → is_name x ≡ true → begins is_word_byte r ≡ false → ReadsAs r ts → ReadsAs (x ++ r) (name x ∷ ts)
reads_name x r ts h k more =
    let parts = name_parts x h in
    reads_front x r form.Word (name x) ts (word_front x r parts.0 k) (rw (parts.1, h) refl) more

-- numbers
all_more : (ds : List ℕ) (d : ℕ) → list_all is_digit ds ≡ true → is_digit d ≡ true → list_all is_digit (ds ++ d ∷ []) ≡ true
all_more [] d h k = rw k refl
all_more (x ∷ ds) d h k = let both = and_parts (is_digit x) (list_all is_digit ds) h in rw (both.0, all_more ds d both.1 k) refl

digit_byte : (d : ℕ) → d < 10 → is_digit (48 + d) ≡ true
digit_byte d k = grind (arith, nat_tests)

digits_more : (n : ℕ) (ds : List ℕ) → is_decimal ds ≡ true → is_decimal (ds ++ (48 + n % 10) ∷ []) ≡ true
digits_more n [] h = cc
digits_more n (x ∷ ds) h =
    let both = and_parts (is_digit x) (list_all is_digit ds) h in
    let small : n % 10 < 10 = omega arith in
    rw (both.0, all_more ds (48 + n % 10) both.1 (digit_byte (n % 10) small)) refl

pub decimal_formed : (n : ℕ) → n < 2 ^ 64 → is_decimal (decimal n) ≡ true
decimal_formed n h = decimal_by_steps (λ _ ds. is_decimal ds ≡ true) (λ d k. rw (digit_byte d k) refl) (λ d ds k a. digits_more d ds a) n h

not_hex : (x y z : Bool) → y ≡ false → ((x && y) && z) ≡ false
not_hex true y z h = rw h refl
not_hex false y z h = refl

other_apart : (c : ℕ) → is_word_byte c ≡ false → (c == 120) ≡ false
other_apart c h = grind (arith, nat_tests)

digit_apart : (c : ℕ) → is_digit c ≡ true → (c == 120) ≡ false
digit_apart c h = grind (arith, nat_tests)

no_hex : (b : ℕ) (bs r : List ℕ) → list_all is_digit bs ≡ true → begins is_word_byte r ≡ false → opens_hexadecimal ((b ∷ bs) ++ r) ≡ false
no_hex b [] [] h k = refl
no_hex b [] (c ∷ []) h k = refl
no_hex b [] (c ∷ d ∷ r) h k = not_hex (b == 48) (c == 120) (is_hex_digit d) (other_apart c k)
no_hex b (c ∷ []) [] h k = refl
no_hex b (c ∷ []) (d ∷ r) h k = not_hex (b == 48) (c == 120) (is_hex_digit d) (digit_apart c (and_parts (is_digit c) true h).0)
no_hex b (c ∷ d ∷ bs) r h k = not_hex (b == 48) (c == 120) (is_hex_digit d) (digit_apart c (and_parts (is_digit c) (list_all is_digit (d ∷ bs)) h).0)

no_digit_next : (r : List ℕ) → begins is_word_byte r ≡ false → begins is_digit r ≡ false
no_digit_next [] h = refl
no_digit_next (b ∷ r) h = grind (arith, nat_tests)

decimal_front : (ds r : List ℕ) → is_decimal ds ≡ true → begins is_word_byte r ≡ false → piece_at (ds ++ r) ≡ Some (piece form.Decimal (length ds))
decimal_front [] r h k = cc
decimal_front (b ∷ bs) r h k =
    let both = and_parts (is_digit b) (list_all is_digit bs) h in
    let x = digit_excludes b both.0 in
    rw (x.2, both.0, no_hex b bs r both.1 k, run is_digit bs r both.1 (no_digit_next r k), one-add) refl

pub number_small : (n : ℕ) → is_number n ≡ true → n < 2 ^ 64
number_small n h = ltb-true n (2 ^ 64) h

pub reads_number : (n : ℕ) (r : List ℕ) (ts : List Token) → is_number n ≡ true → begins is_word_byte r ≡ false → ReadsAs r ts → ReadsAs (decimal n ++ r) (number n ∷ ts)
reads_number n r ts h k more =
    let small = number_small n h in
    let value : digits_value 10 (decimal n) ≡ n = (decimal_is_IsNumeral n small).1 in
    reads_front (decimal n) r form.Decimal (number n) ts (decimal_front (decimal n) r (decimal_formed n small) k) (rw (value, h) refl) more

-- what stands between quotes
closed : (p : ℕ → Bool) (q : ℕ) (xs r : List ℕ) → list_all p xs ≡ true → p q ≡ false → (prefix_len p (xs ++ q ∷ r) ≡ length xs) × (slice_get (xs ++ q ∷ r) (length xs) ≡ Some q)
closed p q xs r h k = (run p xs (q ∷ r) h k, at_seam xs)
  where
    at_seam : (xs : List ℕ) → slice_get (xs ++ q ∷ r) (length xs) ≡ Some q
    at_seam [] = refl
    at_seam (x ∷ xs) = at_seam xs

letters_logic : (ds : List Digit) → list_all is_logic_byte (map letter_of ds) ≡ true
letters_logic [] = refl
letters_logic (digit.Zero ∷ ds) = letters_logic ds
letters_logic (_ ∷ ds) = letters_logic ds

again : (d : Digit) → logic_digit (letter_of d) ≡ d
again digit.Zero = refl
again _ = refl

all_again : (ds : List Digit) → map logic_digit (map letter_of ds) ≡ ds
all_again [] = refl
all_again (d ∷ ds) = rw (again d, all_again ds) refl

size_of : (q : ℕ) (xs : List ℕ) → length (xs ++ q ∷ []) ≡ length xs + 1
size_of q xs = length-append xs (q ∷ [])

between : (q : ℕ) (xs : List ℕ) → inner (q ∷ xs ++ q ∷ []) ≡ xs
between q xs =
    let size : suc (length (xs ++ q ∷ [])) - 2 ≡ length xs = omega (arith, size_of q xs) in
    rw size (take-append_seam xs (q ∷ []))

closed_found : (f : Form) (p : ℕ → Bool) (q : ℕ) (xs r : List ℕ) → list_all p xs ≡ true → p q ≡ false → closed_at f p q ((xs ++ q ∷ []) ++ r) ≡ Some (piece f (length (q ∷ xs ++ q ∷ [])))
closed_found f p q xs r h k =
    let c = closed p q xs r h k in
    let size : length xs + 2 ≡ length (q ∷ xs ++ q ∷ []) = omega (arith, size_of q xs) in
    rw (append_assoc xs (q ∷ []) r, c.0, c.1, eq-eqb q q refl) (ap (λ (n : ℕ). Some (piece f n)) size)

limits_same : (ds : List Digit) → length (map letter_of (reverse ds)) ≡ length ds
limits_same ds = length-map (reverse ds) letter_of ∙ length-reverse ds

twice : (ds : List Digit) → reverse (map logic_digit (map letter_of (reverse ds))) ≡ ds
twice ds = ap reverse (all_again (reverse ds)) ∙ reverse-reverse ds

pub reads_logic : (ds : List Digit) (r : List ℕ) (ts : List Token) → (nat_lt 0 (length ds) && nat_le (length ds) 64) ≡ true → ReadsAs r ts → ReadsAs ((codes "'" ++ map letter_of (reverse ds) ++ codes "'") ++ r) (logic ds ∷ ts)
reads_logic ds r ts h more =
    let xs : List ℕ = map letter_of (reverse ds) in
    reads_front (39 ∷ xs ++ 39 ∷ []) r form.Logic (logic ds) ts
    (closed_found form.Logic is_logic_byte 39 xs r (letters_logic (reverse ds)) refl)
    (rw (between 39 xs, limits_same ds, h, twice ds) refl)
    more

pub reads_quoted : (x : List ℕ) (r : List ℕ) (ts : List Token) → is_print_text x ≡ true → ReadsAs r ts → ReadsAs ((codes "\"" ++ x ++ codes "\"") ++ r) (quoted x ∷ ts)
reads_quoted x r ts h more =
    let both = and_parts (list_all is_print_byte x) (nat_le (length x) 120) h in
    reads_front (34 ∷ x ++ 34 ∷ []) r form.Text (quoted x) ts
    (closed_found form.Text is_print_byte 34 x r both.0 refl)
    (rw (between 34 x, h) refl)
    more

-- symbols
symbol_again : (x : Symbol) → symbol_of (symbol_text x) ≡ Some x
unfolding symbol_of
symbol_again s.LessEqual = refl
symbol_again _ = refl

-- no symbol of two bytes has this second byte
second_marked : (x : Symbol) → nat_lt (length (symbol_text x)) 2 || is_second (get_or (symbol_text x) 1 0) ≡ true
second_marked s.LessEqual = refl
second_marked _ = refl

no_pair_from : (c d : ℕ) (o : Option Symbol) → ((x : Symbol) → o ≡ Some x → symbol_text x ≡ c ∷ d ∷ []) → is_second d ≡ false → o ≡ None
no_pair_from c d None f h = refl
no_pair_from c d (Some x) f h =
    let e : symbol_text x ≡ c ∷ d ∷ [] = f x refl in
    let m : nat_lt (length (symbol_text x)) 2 || is_second (get_or (symbol_text x) 1 0) ≡ true = second_marked x in
    let k : false || is_second d ≡ true = rw e at m in
    cc

no_pair : (c d : ℕ) → is_second d ≡ false → symbol_of (c ∷ d ∷ []) ≡ None
no_pair c d h = no_pair_from c d (symbol_of (c ∷ d ∷ [])) (λ x e. symbol_of_spells (c ∷ d ∷ []) x e) h

-- no other form begins with the byte, but a comment
abbrev is_mark : ℕ → Bool
is_mark b = ((not (is_letter b) && not (is_digit b)) && (not (b == 39) && not (b == 34))) && not (is_blank_byte b)

is_not : (b : Bool) → not b ≡ true → b ≡ false
is_not true h = cc
is_not false h = refl

mark_parts : (b : ℕ) → is_mark b ≡ true → (is_letter b ≡ false) × (is_digit b ≡ false) × ((b == 39) ≡ false) × ((b == 34) ≡ false) × (is_blank_byte b ≡ false)
mark_parts b m =
    let one = and_parts ((not (is_letter b) && not (is_digit b)) && (not (b == 39) && not (b == 34))) (not (is_blank_byte b)) m in
    let two = and_parts (not (is_letter b) && not (is_digit b)) (not (b == 39) && not (b == 34)) one.0 in
    let left = and_parts (not (is_letter b)) (not (is_digit b)) two.0 in
    let right = and_parts (not (b == 39)) (not (b == 34)) two.1 in
    (is_not (is_letter b) left.0, is_not (is_digit b) left.1, is_not (b == 39) right.0, is_not (b == 34) right.1, is_not (is_blank_byte b) one.1)

both_false : (x y : Bool) → y ≡ false → (x && y) ≡ false
both_false true y h = h
both_false false y h = refl

no_slash : (d : ℕ) → is_second d ≡ false → (d == 47) ≡ false
no_slash d h = grind (arith, nat_tests)

-- the symbol of one byte
one_front : (c : ℕ) (x : Symbol) (r : List ℕ) → symbol_of (c ∷ []) ≡ Some x → is_mark c ≡ true → begins is_second r ≡ false → piece_at (c ∷ r) ≡ Some (piece form.Symbol (length (symbol_text x)))
one_front c x [] e m k = let y = mark_parts c m in rw (y.0, y.1, y.2, y.3, y.4, e) refl
one_front c x (d ∷ r) e m k = let y = mark_parts c m in rw (y.0, y.1, y.2, y.3, y.4, both_false (c == 47) (d == 47) (no_slash d k), no_pair c d k, e) refl

-- and one of two
two_front : (c d : ℕ) (x : Symbol) (r : List ℕ) → symbol_of (c ∷ d ∷ []) ≡ Some x → is_mark c ≡ true → (d == 47) ≡ false → piece_at (c ∷ d ∷ r) ≡ Some (piece form.Symbol (length (symbol_text x)))
two_front c d x r e m k = let y = mark_parts c m in rw (y.0, y.1, y.2, y.3, y.4, both_false (c == 47) (d == 47) k, e) refl

abbrev are_marks : List ℕ → Bool
are_marks [] = false
are_marks (c ∷ []) = is_mark c
are_marks (c ∷ d ∷ []) = is_mark c && not (d == 47)
are_marks (c ∷ d ∷ e ∷ bs) = false

marks_front : (bs : List ℕ) (x : Symbol) (r : List ℕ) → symbol_of bs ≡ Some x → are_marks bs ≡ true → begins is_second r ≡ false → piece_at (bs ++ r) ≡ Some (piece form.Symbol (length (symbol_text x)))
marks_front [] x r e m k = cc
marks_front (c ∷ []) x r e m k = one_front c x r e m k
marks_front (c ∷ d ∷ []) x r e m k = let both = and_parts (is_mark c) (not (d == 47)) m in two_front c d x r e both.0 (is_not (d == 47) both.1)
marks_front (c ∷ d ∷ b ∷ bs) x r e m k = cc

symbols_marked : (x : Symbol) → are_marks (symbol_text x) ≡ true
symbols_marked s.LessEqual = refl
symbols_marked _ = refl

pub reads_symbol : (x : Symbol) (r : List ℕ) (ts : List Token) → begins is_second r ≡ false → ReadsAs r ts → ReadsAs (symbol_text x ++ r) (symbol x ∷ ts)
reads_symbol x r ts k h = reads_front (symbol_text x) r form.Symbol (symbol x) ts (marks_front (symbol_text x) x r (symbol_again x) (symbols_marked x) k) (rw (symbol_again x) refl) h
