-- That the piece found at the front is the longest front that has a form.
use Rattle.std.proofs.Common.{◌≡◌, ℕ, zero, suc, ◌+◌, ◌<◌, ◌≤◌, Bool, true, false, ◌&&◌, ◌||◌, cond, leb, List, [], ◌∷◌, length, take, drop, get_or, Option, Some, None, min, ◌∙◌, refl, sym, ap, subst, arith}
use Rattle.std.specs.Prelude.{is_some, ◌==◌, slice_get}
use Rattle.std.specs.List.{list_all, prefix_len}
use Rattle.std.proofs.Math.Numerals.{one-add}
use Rattle.std.proofs.Math.ListN.{length-take}
use Rattle.std.proofs.lemmas.Bool.{cond_both, cond-true, eqb-true, eq-eqb, leb-true, and_parts, and_left, false_from_ne_true}
use Rattle.std.proofs.lemmas.Bool.Decides.{nat_tests}
use Rattle.std.proofs.lemmas.List.Sums.{prefix_len-le-length}
use Rattle.model_tree.specs.declared.vocabulary.Symbol.{Symbol}
use Rattle.model_tree.specs.declared.vocabulary.Symbol.TheVariants as symbol
use Rattle.model_tree.specs.Vocabulary.{symbol_text}
use Rattle.model_tree.specs.Leaves.{is_letter, is_word_byte, is_word, is_print_byte}
use Rattle.model_lexer.specs.Tokens.{symbol_of}
use Rattle.model_lexer.proofs.Symbols.{symbol_of_spells}
use Rattle.model_lexer.specs.declared.forms.Form.{Form}
use Rattle.model_lexer.specs.declared.forms.Form.TheVariants as form
use Rattle.model_lexer.specs.declared.forms.Piece.{Piece}
use Rattle.model_lexer.specs.Forms.{is_blank_byte, is_comment_byte, is_digit, is_hex_digit, is_logic_byte, is_blank, is_comment, is_decimal, is_hexadecimal, closes, is_logic, is_text, form_of}
use Rattle.model_lexer.specs.Fronts.{piece, opens_hexadecimal, opens_comment, number_at, closed_by, closed_at, symbol_at, piece_at}
use Rattle.model_lexer.specs.Cut.{IsPiece}
use Rattle.model_lexer.proofs.Runs.{all_front, past_front, closes_at, closes_only}

-- the form of bytes by the answers of the tests

abbrev ranked : Bool → Bool → Bool → Bool → Bool → Bool → Bool → Bool → Option Form
ranked k c w d h l t s =
    cond k (Some form.Blank) (cond c (Some form.Comment) (cond w (Some form.Word) (cond d (Some form.Decimal) (cond h (Some form.Hexadecimal) (cond l (Some form.Logic) (cond t (Some form.Text) (cond s (Some form.Symbol) None)))))))

form_by : (xs : List ℕ) (k c w d h l t s : Bool) → is_blank xs ≡ k → is_comment xs ≡ c → is_word xs ≡ w → is_decimal xs ≡ d → is_hexadecimal xs ≡ h → is_logic xs ≡ l → is_text xs ≡ t → is_some (symbol_of xs) ≡ s → form_of xs ≡ ranked k c w d h l t s
form_by xs k c w d h l t s ek ec ew ed eh el et es = rw (ek, ec, ew, ed, eh, el, et, es) refl

pub no_blank : (b : ℕ) (bs : List ℕ) → is_blank_byte b ≡ false → is_blank (b ∷ bs) ≡ false
no_blank b [] e = e
no_blank b (c ∷ bs) e = refl

pub no_comment : (b : ℕ) (bs : List ℕ) → (b == 47) ≡ false → is_comment (b ∷ bs) ≡ false
no_comment b [] e = refl
no_comment b (c ∷ bs) e = rw e refl

pub no_hexadecimal : (b : ℕ) (bs : List ℕ) → (b == 48) ≡ false → is_hexadecimal (b ∷ bs) ≡ false
no_hexadecimal b [] e = refl
no_hexadecimal b (c ∷ []) e = refl
no_hexadecimal b (c ∷ d ∷ bs) e = rw e refl

-- symbols

pub nothing_formless : form_of [] ≡ None
unfolding symbol_of
nothing_formless = refl

no_value : {X : Type 0} (o : Option X) → ((x : X) → o ≡ Some x → ⊥) → is_some o ≡ false
no_value None f = refl
no_value (Some x) f = absurd (f x refl)

no_symbol : (bytes : List ℕ) → ((s : Symbol) → symbol_text s ≡ bytes → ⊥) → is_some (symbol_of bytes) ≡ false
no_symbol bytes f = no_value (symbol_of bytes) (λ s e. f s (symbol_of_spells bytes s e))

symbol_short : (s : Symbol) → leb (length (symbol_text s)) 2 ≡ true
symbol_short symbol.LessEqual = refl
symbol_short _ = refl

symbol_some : (s : Symbol) → leb 1 (length (symbol_text s)) ≡ true
symbol_some symbol.LessEqual = refl
symbol_some _ = refl

-- bytes that no symbol begins with
abbrev pub opens_other : ℕ → Bool
opens_other b = (is_letter b || is_digit b) || (((b == 39) || (b == 34)) || is_blank_byte b)

symbol_first : (s : Symbol) → opens_other (get_or (symbol_text s) 0 0) ≡ false
symbol_first symbol.LessEqual = refl
symbol_first _ = refl

symbol_no_comment : (s : Symbol) → opens_comment (symbol_text s) ≡ false
symbol_no_comment symbol.LessEqual = refl
symbol_no_comment _ = refl

no_long_symbol : (xs : List ℕ) (m : ℕ) → 2 < m → m ≤ length xs → is_some (symbol_of (take m xs)) ≡ false
no_long_symbol xs m long within =
    no_symbol (take m xs) (λ s e.
    let short : length (symbol_text s) ≤ 2 = leb-true _ _ (symbol_short s) in
    let same : length (symbol_text s) ≡ length (take m xs) = ap length e in
    let size : length (take m xs) ≡ min m (length xs) = length-take m xs in
    let no : ⊥ = absurd (omega arith) in no)

pub no_symbol_from : (b : ℕ) (bs : List ℕ) → opens_other b ≡ true → is_some (symbol_of (b ∷ bs)) ≡ false
no_symbol_from b bs l =
    no_symbol (b ∷ bs) (λ s e.
    let first : opens_other (get_or (symbol_text s) 0 0) ≡ opens_other b = ap (λ x. opens_other (get_or x 0 0)) e in
    let none : opens_other (get_or (symbol_text s) 0 0) ≡ false = symbol_first s in
    let no : ⊥ = cc in no)

pub no_symbol_comment : (bytes : List ℕ) → opens_comment bytes ≡ true → is_some (symbol_of bytes) ≡ false
no_symbol_comment bytes l =
    no_symbol bytes (λ s e.
    let first : opens_comment (symbol_text s) ≡ opens_comment bytes = ap opens_comment e in
    let none : opens_comment (symbol_text s) ≡ false = symbol_no_comment s in
    let no : ⊥ = cc in no)

-- what a first byte excludes

pub letter_excludes : (b : ℕ) → is_letter b ≡ true → (is_blank_byte b ≡ false) × ((b == 47) ≡ false) × (is_digit b ≡ false) × ((b == 48) ≡ false) × ((b == 39) ≡ false) × ((b == 34) ≡ false)
letter_excludes b l = (grind (arith, nat_tests), grind (arith, nat_tests), grind (arith, nat_tests), grind (arith, nat_tests), grind (arith, nat_tests), grind (arith, nat_tests))

pub digit_excludes : (b : ℕ) → is_digit b ≡ true → (is_blank_byte b ≡ false) × ((b == 47) ≡ false) × (is_letter b ≡ false) × ((b == 39) ≡ false) × ((b == 34) ≡ false)
digit_excludes b l = (grind (arith, nat_tests), grind (arith, nat_tests), grind (arith, nat_tests), grind (arith, nat_tests), grind (arith, nat_tests))

pub blank_excludes : (b : ℕ) → is_blank_byte b ≡ true → ((b == 47) ≡ false) × (is_letter b ≡ false) × (is_digit b ≡ false) × ((b == 48) ≡ false) × ((b == 39) ≡ false) × ((b == 34) ≡ false)
blank_excludes b l = (grind (arith, nat_tests), grind (arith, nat_tests), grind (arith, nat_tests), grind (arith, nat_tests), grind (arith, nat_tests), grind (arith, nat_tests))

-- what bytes have no front with a form
abbrev pub HasNoPiece : List ℕ → Type 0
HasNoPiece bytes = (m : ℕ) → m ≤ length bytes → form_of (take m bytes) ≡ None

abbrev pub Finds : List ℕ → Option Piece → Type 0
Finds bytes None = HasNoPiece bytes
Finds bytes (Some p) = IsPiece bytes p.form p.len

-- a piece whose first byte is b, from the form of the front with so many more bytes
first_and : (b : ℕ) (bs : List ℕ) (f : Form) (n : ℕ) → n ≤ length bs → form_of (b ∷ take n bs) ≡ Some f → ((m : ℕ) → n < m → m ≤ length bs → form_of (b ∷ take m bs) ≡ None) → IsPiece (b ∷ bs) f (suc n)
first_and b bs f n w e g = record { within = omega arith; formed = e; longest = longer }
  where
    longer : (m : ℕ) → suc n < m → m ≤ length (b ∷ bs) → form_of (take m (b ∷ bs)) ≡ None
    longer zero h k = absurd (omega arith)
    longer (suc m) h k = g m (omega arith) (omega arith)

no_piece : (b : ℕ) (bs : List ℕ) → ((m : ℕ) → m ≤ length bs → form_of (b ∷ take m bs) ≡ None) → HasNoPiece (b ∷ bs)
no_piece b bs g zero k = nothing_formless
no_piece b bs g (suc m) k = g m (omega arith)

-- words
word_form : (b : ℕ) (bs : List ℕ) (v : Bool) → is_letter b ≡ true → list_all is_word_byte bs ≡ v → form_of (b ∷ bs) ≡ ranked false false v false false false false false
word_form b bs v l e =
    let x = letter_excludes b l in
    let w : is_word (b ∷ bs) ≡ v = rw l e in
    form_by (b ∷ bs) false false v false false false false false (no_blank b bs x.0) (no_comment b bs x.1) w (rw x.2 refl) (no_hexadecimal b bs x.3) (rw x.4 refl) (rw x.5 refl) (no_symbol_from b bs (rw l refl))

word_piece : (b : ℕ) (bs : List ℕ) → is_letter b ≡ true → IsPiece (b ∷ bs) form.Word (prefix_len is_word_byte (b ∷ bs))
word_piece b bs l =
    let len : prefix_len is_word_byte (b ∷ bs) ≡ suc (prefix_len is_word_byte bs) = rw (l, one-add) refl in
    rw len (first_and b bs form.Word (prefix_len is_word_byte bs) (prefix_len-le-length is_word_byte bs)
    (word_form b (take (prefix_len is_word_byte bs) bs) true l (all_front is_word_byte bs))
    (λ m h k. word_form b (take m bs) false l (past_front is_word_byte bs m h k)))

-- numbers
and_more : (x y z : Bool) → (x && y) ≡ false → (x && (y && z)) ≡ false
and_more false y z h = refl
and_more true false z h = refl
and_more true true z h = cc

no_digit : (b : ℕ) (bs : List ℕ) → opens_hexadecimal (b ∷ bs) ≡ false → (m : ℕ) → is_hexadecimal (b ∷ take m bs) ≡ false
no_digit b bs h zero = refl
no_digit b [] h (suc m) = refl
no_digit b (c ∷ bs) h (suc zero) = refl
no_digit b (c ∷ []) h (suc (suc m)) = refl
no_digit b (c ∷ d ∷ bs) h (suc (suc m)) = and_more ((b == 48) && (c == 120)) (is_hex_digit d) (list_all is_hex_digit (take m bs)) h

decimal_form : (b : ℕ) (bs : List ℕ) (v : Bool) → is_digit b ≡ true → is_hexadecimal (b ∷ bs) ≡ false → list_all is_digit bs ≡ v → form_of (b ∷ bs) ≡ ranked false false false v false false false false
decimal_form b bs v l h e =
    let x = digit_excludes b l in
    let w : is_word (b ∷ bs) ≡ false = rw x.2 refl in
    let d : is_decimal (b ∷ bs) ≡ v = rw l e in
    form_by (b ∷ bs) false false false v false false false false (no_blank b bs x.0) (no_comment b bs x.1) w d h (rw x.3 refl) (rw x.4 refl) (no_symbol_from b bs (rw (x.2, l) refl))

decimal_piece : (b : ℕ) (bs : List ℕ) → is_digit b ≡ true → opens_hexadecimal (b ∷ bs) ≡ false → IsPiece (b ∷ bs) form.Decimal (prefix_len is_digit (b ∷ bs))
decimal_piece b bs l o =
    let len : prefix_len is_digit (b ∷ bs) ≡ suc (prefix_len is_digit bs) = rw (l, one-add) refl in
    rw len (first_and b bs form.Decimal (prefix_len is_digit bs) (prefix_len-le-length is_digit bs)
    (decimal_form b (take (prefix_len is_digit bs) bs) true l (no_digit b bs o (prefix_len is_digit bs)) (all_front is_digit bs))
    (λ m h k. decimal_form b (take m bs) false l (no_digit b bs o m) (past_front is_digit bs m h k)))

hexadecimal_form : (d : ℕ) (ds : List ℕ) (v : Bool) → is_hex_digit d ≡ true → list_all is_hex_digit ds ≡ v → form_of (48 ∷ 120 ∷ d ∷ ds) ≡ ranked false false false false v false false false
hexadecimal_form d ds v l e =
    let h : is_hexadecimal (48 ∷ 120 ∷ d ∷ ds) ≡ v = rw l e in
    form_by (48 ∷ 120 ∷ d ∷ ds) false false false false v false false false refl refl refl refl h refl refl (no_symbol_from 48 (120 ∷ d ∷ ds) refl)

hexadecimal_piece : (d : ℕ) (ds : List ℕ) → is_hex_digit d ≡ true → IsPiece (48 ∷ 120 ∷ d ∷ ds) form.Hexadecimal (prefix_len is_hex_digit (d ∷ ds) + 2)
hexadecimal_piece d ds l =
    let len : prefix_len is_hex_digit (d ∷ ds) ≡ suc (prefix_len is_hex_digit ds) = rw (l, one-add) refl in
    let size : prefix_len is_hex_digit (d ∷ ds) + 2 ≡ suc (suc (suc (prefix_len is_hex_digit ds))) = omega arith in
    let within : prefix_len is_hex_digit ds ≤ length ds = prefix_len-le-length is_hex_digit ds in
    rw size (first_and 48 (120 ∷ d ∷ ds) form.Hexadecimal (suc (suc (prefix_len is_hex_digit ds))) (omega arith)
    (hexadecimal_form d (take (prefix_len is_hex_digit ds) ds) true l (all_front is_hex_digit ds))
    longer)
  where
    longer : (m : ℕ) → suc (suc (prefix_len is_hex_digit ds)) < m → m ≤ length (120 ∷ d ∷ ds) → form_of (48 ∷ take m (120 ∷ d ∷ ds)) ≡ None
    longer zero h k = absurd (omega arith)
    longer (suc zero) h k = absurd (omega arith)
    longer (suc (suc m)) h k = hexadecimal_form d (take m ds) false l (past_front is_hex_digit ds m (omega arith) (omega arith))

number_found : (b : ℕ) (bs : List ℕ) → is_digit b ≡ true → (v : Bool) → opens_hexadecimal (b ∷ bs) ≡ v → Finds (b ∷ bs) (Some (number_at (b ∷ bs)))
number_found b bs l false o = rw o (decimal_piece b bs l o)
number_found b [] l true o = cc
number_found b (c ∷ []) l true o = cc
number_found b (c ∷ d ∷ ds) l true o =
    let one = and_parts ((b == 48) && (c == 120)) (is_hex_digit d) o in
    let two = and_parts (b == 48) (c == 120) one.0 in
    let first : 48 ≡ b = sym (eqb-true b 48 two.0) in
    let second : 120 ≡ c = sym (eqb-true c 120 two.1) in
    let wanted : Piece = piece form.Hexadecimal (prefix_len is_hex_digit (d ∷ ds) + 2) in
    let given : number_at (48 ∷ 120 ∷ d ∷ ds) ≡ wanted = cond-true (is_hex_digit d) wanted (piece form.Decimal (prefix_len is_digit (48 ∷ 120 ∷ d ∷ ds))) one.1 in
    let found : Finds (48 ∷ 120 ∷ d ∷ ds) (Some (number_at (48 ∷ 120 ∷ d ∷ ds))) = subst (λ (x : Piece). Finds (48 ∷ 120 ∷ d ∷ ds) (Some x)) (sym given) (hexadecimal_piece d ds one.1) in
    subst (λ (x : ℕ). Finds (x ∷ c ∷ d ∷ ds) (Some (number_at (x ∷ c ∷ d ∷ ds)))) first
    (subst (λ (x : ℕ). Finds (48 ∷ x ∷ d ∷ ds) (Some (number_at (48 ∷ x ∷ d ∷ ds)))) second found)

-- what stands between quotes
logic_form : (bs : List ℕ) (v : Bool) → closes is_logic_byte 39 bs ≡ v → form_of (39 ∷ bs) ≡ ranked false false false false false v false false
logic_form bs v e = form_by (39 ∷ bs) false false false false false v false false (no_blank 39 bs refl) (no_comment 39 bs refl) refl refl (no_hexadecimal 39 bs refl) e refl (no_symbol_from 39 bs refl)

text_form : (bs : List ℕ) (v : Bool) → closes is_print_byte 34 bs ≡ v → form_of (34 ∷ bs) ≡ ranked false false false false false false v false
text_form bs v e = form_by (34 ∷ bs) false false false false false false v false (no_blank 34 bs refl) (no_comment 34 bs refl) refl refl (no_hexadecimal 34 bs refl) refl e (no_symbol_from 34 bs refl)

got_within : (xs : List ℕ) (n x : ℕ) → slice_get xs n ≡ Some x → n < length xs
got_within [] n x h = cc
got_within (y ∷ ys) zero x h = omega arith
got_within (y ∷ ys) (suc n) x h = let k : n < length ys = got_within ys n x h in omega arith

module _ (f : Form) (p : ℕ → Bool) (quote : ℕ) (apart : p quote ≡ false)
    (form_is : (bs : List ℕ) → closes p quote bs ≡ true → form_of (quote ∷ bs) ≡ Some f)
    (form_none : (bs : List ℕ) → closes p quote bs ≡ false → form_of (quote ∷ bs) ≡ None) where
  closed_piece : (bs : List ℕ) → slice_get bs (prefix_len p bs) ≡ Some quote → IsPiece (quote ∷ bs) f (prefix_len p bs + 2)
  closed_piece bs e =
      let within : prefix_len p bs < length bs = got_within bs (prefix_len p bs) quote e in
      let size : prefix_len p bs + 2 ≡ suc (suc (prefix_len p bs)) = omega arith in
      rw size (first_and quote bs f (suc (prefix_len p bs)) (omega arith) (form_is (take (suc (prefix_len p bs)) bs) (closes_at p quote bs e))
      (λ m h k. form_none (take m bs) (false_from_ne_true (closes p quote (take m bs)) (λ t. let only : m ≡ suc (prefix_len p bs) = (closes_only p quote apart bs m k t).0 in absurd (omega arith)))))

  open_piece : (bs : List ℕ) → (slice_get bs (prefix_len p bs) ≡ Some quote → ⊥) → HasNoPiece (quote ∷ bs)
  open_piece bs e = no_piece quote bs (λ m k. form_none (take m bs) (false_from_ne_true (closes p quote (take m bs)) (λ t. e (closes_only p quote apart bs m k t).1)))

  closed_found : (bs : List ℕ) (o : Option ℕ) → slice_get bs (prefix_len p bs) ≡ o → Finds (quote ∷ bs) (closed_by f quote (prefix_len p bs) o)
  closed_found bs None e = open_piece bs (λ s. cc)
  closed_found bs (Some b) e =
      cond_both (b == quote) (Some (piece f (prefix_len p bs + 2))) None (Finds (quote ∷ bs))
      (λ t. closed_piece bs (e ∙ ap Some (eqb-true b quote t)))
      (λ n. open_piece bs (λ s. let same : b ≡ quote = cc in let t : (b == quote) ≡ true = eq-eqb b quote same in cc))

-- blanks
blank_form : (b c : ℕ) (bs : List ℕ) → is_blank_byte b ≡ true → form_of (b ∷ c ∷ bs) ≡ None
blank_form b c bs l =
    let x = blank_excludes b l in
    form_by (b ∷ c ∷ bs) false false false false false false false false refl (no_comment b (c ∷ bs) x.0) (rw x.1 refl) (rw x.2 refl) (no_hexadecimal b (c ∷ bs) x.3) (rw x.4 refl) (rw x.5 refl)
    (no_symbol_from b (c ∷ bs) (rw (x.1, x.2, x.4, x.5, l) refl))

blank_piece : (b : ℕ) (bs : List ℕ) → is_blank_byte b ≡ true → IsPiece (b ∷ bs) form.Blank 1
blank_piece b bs l = first_and b bs form.Blank 0 (omega arith) (rw l refl) (longer bs)
  where
    longer : (cs : List ℕ) (m : ℕ) → 0 < m → m ≤ length cs → form_of (b ∷ take m cs) ≡ None
    longer cs zero h k = absurd (omega arith)
    longer [] (suc m) h k = absurd (omega arith)
    longer (c ∷ cs) (suc m) h k = blank_form b c (take m cs) l

-- comments
comment_form : (bs : List ℕ) (v : Bool) → list_all is_comment_byte bs ≡ v → form_of (47 ∷ 47 ∷ bs) ≡ ranked false v false false false false false false
comment_form bs v e = form_by (47 ∷ 47 ∷ bs) false v false false false false false false refl e refl refl (no_hexadecimal 47 (47 ∷ bs) refl) refl refl (no_symbol_comment (47 ∷ 47 ∷ bs) refl)

comment_piece : (bs : List ℕ) → IsPiece (47 ∷ 47 ∷ bs) form.Comment (prefix_len is_comment_byte bs + 2)
comment_piece bs =
    let size : prefix_len is_comment_byte bs + 2 ≡ suc (suc (prefix_len is_comment_byte bs)) = omega arith in
    let within : prefix_len is_comment_byte bs ≤ length bs = prefix_len-le-length is_comment_byte bs in
    rw size (first_and 47 (47 ∷ bs) form.Comment (suc (prefix_len is_comment_byte bs)) (omega arith)
    (comment_form (take (prefix_len is_comment_byte bs) bs) true (all_front is_comment_byte bs))
    longer)
  where
    longer : (m : ℕ) → suc (prefix_len is_comment_byte bs) < m → m ≤ length (47 ∷ bs) → form_of (47 ∷ take m (47 ∷ bs)) ≡ None
    longer zero h k = absurd (omega arith)
    longer (suc m) h k = comment_form (take m bs) false (past_front is_comment_byte bs m (omega arith) (omega arith))

comment_found : (b : ℕ) (bs : List ℕ) → opens_comment (b ∷ bs) ≡ true → Finds (b ∷ bs) (Some (piece form.Comment (prefix_len is_comment_byte (drop 2 (b ∷ bs)) + 2)))
comment_found b [] o = cc
comment_found b (c ∷ cs) o =
    let both = and_parts (b == 47) (c == 47) o in
    let first : 47 ≡ b = sym (eqb-true b 47 both.0) in
    let second : 47 ≡ c = sym (eqb-true c 47 both.1) in
    subst (λ (x : ℕ). IsPiece (x ∷ c ∷ cs) form.Comment (prefix_len is_comment_byte cs + 2)) first
    (subst (λ (x : ℕ). IsPiece (47 ∷ x ∷ cs) form.Comment (prefix_len is_comment_byte cs + 2)) second (comment_piece cs))

-- symbols
take_taken : (k : ℕ) (xs : List ℕ) → take (length (take k xs)) xs ≡ take k xs
take_taken zero xs = refl
take_taken (suc k) [] = refl
take_taken (suc k) (x ∷ xs) = ap (λ ys. x ∷ ys) (take_taken k xs)

no_comment_front : (b : ℕ) (bs : List ℕ) → opens_comment (b ∷ bs) ≡ false → (m : ℕ) → is_comment (b ∷ take m bs) ≡ false
no_comment_front b bs h zero = refl
no_comment_front b [] h (suc m) = refl
no_comment_front b (c ∷ bs) h (suc m) = and_left ((b == 47) && (c == 47)) (list_all is_comment_byte (take m bs)) h

module _ (b : ℕ) (bs : List ℕ) (letter : is_letter b ≡ false) (digit : is_digit b ≡ false) (single : (b == 39) ≡ false) (double : (b == 34) ≡ false) (blank : is_blank_byte b ≡ false) (comment : opens_comment (b ∷ bs) ≡ false) where
  symbol_form : (m : ℕ) (v : Bool) → is_some (symbol_of (b ∷ take m bs)) ≡ v → form_of (b ∷ take m bs) ≡ ranked false false false false false false false v
  symbol_form m v e =
      let zero_apart : (b == 48) ≡ false = grind (arith, nat_tests) in
      form_by (b ∷ take m bs) false false false false false false false v (no_blank b (take m bs) blank) (no_comment_front b bs comment m) (rw letter refl) (rw digit refl) (no_hexadecimal b (take m bs) zero_apart) (rw single refl) (rw double refl) e

  formless : (m : ℕ) → is_some (symbol_of (take m (b ∷ bs))) ≡ false → form_of (take m (b ∷ bs)) ≡ None
  formless zero e = nothing_formless
  formless (suc m) e = symbol_form m false e

  size_is : (k : ℕ) (s : Symbol) → symbol_of (take k (b ∷ bs)) ≡ Some s → length (symbol_text s) ≡ min k (length (b ∷ bs))
  size_is k s e = ap length (symbol_of_spells (take k (b ∷ bs)) s e) ∙ length-take k (b ∷ bs)

  front_is : (k : ℕ) (s : Symbol) → symbol_of (take k (b ∷ bs)) ≡ Some s → take (length (symbol_text s)) (b ∷ bs) ≡ take k (b ∷ bs)
  front_is k s e = rw (symbol_of_spells (take k (b ∷ bs)) s e) (take_taken k (b ∷ bs))

  formed_at : (k : ℕ) (s : Symbol) → symbol_of (take (suc k) (b ∷ bs)) ≡ Some s → form_of (take (length (symbol_text s)) (b ∷ bs)) ≡ Some form.Symbol
  formed_at k s e = rw (front_is (suc k) s e) (symbol_form k true (ap is_some e))

  symbol_found : (long short : Option Symbol) → symbol_of (take 2 (b ∷ bs)) ≡ long → symbol_of (take 1 (b ∷ bs)) ≡ short → Finds (b ∷ bs) (symbol_at long short)
  symbol_found (Some s) short e f =
      let size : length (symbol_text s) ≡ min 2 (length (b ∷ bs)) = size_is 2 s e in
      record { within = omega arith; formed = formed_at 1 s e; longest = λ m h k. formless m (no_long_symbol (b ∷ bs) m (omega arith) k) }
  symbol_found None (Some s) e f =
      let size : length (symbol_text s) ≡ min 1 (length (b ∷ bs)) = size_is 1 s f in
      let some : 1 ≤ length (symbol_text s) = leb-true _ _ (symbol_some s) in
      record { within = omega arith; formed = formed_at 0 s f; longest = λ m h k. past_one m (omega arith) k }
    where
      past_one : (m : ℕ) → 1 < m → m ≤ length (b ∷ bs) → form_of (take m (b ∷ bs)) ≡ None
      past_one zero h k = absurd (omega arith)
      past_one (suc zero) h k = absurd (omega arith)
      past_one (suc (suc zero)) h k = formless 2 (ap is_some e)
      past_one (suc (suc (suc m))) h k = formless (suc (suc (suc m))) (no_long_symbol (b ∷ bs) (suc (suc (suc m))) (omega arith) k)
  symbol_found None None e f = past_none
    where
      past_none : (m : ℕ) → m ≤ length (b ∷ bs) → form_of (take m (b ∷ bs)) ≡ None
      past_none zero k = nothing_formless
      past_none (suc zero) k = formless 1 (ap is_some f)
      past_none (suc (suc zero)) k = formless 2 (ap is_some e)
      past_none (suc (suc (suc m))) k = formless (suc (suc (suc m))) (no_long_symbol (b ∷ bs) (suc (suc (suc m))) (omega arith) k)

quoted_found : (b quote : ℕ) (bs : List ℕ) (f : Form) (p : ℕ → Bool) → (b == quote) ≡ true → Finds (quote ∷ bs) (closed_at f p quote bs) → Finds (b ∷ bs) (closed_at f p quote bs)
quoted_found b quote bs f p t h = subst (λ (x : ℕ). Finds (x ∷ bs) (closed_at f p quote bs)) (sym (eqb-true b quote t)) h

logic_found : (bs : List ℕ) → Finds (39 ∷ bs) (closed_at form.Logic is_logic_byte 39 bs)
logic_found bs = closed_found form.Logic is_logic_byte 39 refl (λ xs e. logic_form xs true e) (λ xs e. logic_form xs false e) bs _ refl

text_found : (bs : List ℕ) → Finds (34 ∷ bs) (closed_at form.Text is_print_byte 34 bs)
text_found bs = closed_found form.Text is_print_byte 34 refl (λ xs e. text_form xs true e) (λ xs e. text_form xs false e) bs _ refl

-- what is found at the front is its piece, and where nothing is found it has none
pub found : (bytes : List ℕ) → Finds bytes (piece_at bytes)
found [] = nothing_there
  where
    nothing_there : (m : ℕ) → m ≤ length {A = ℕ} [] → form_of (take m []) ≡ None
    nothing_there zero k = nothing_formless
    nothing_there (suc m) k = nothing_formless
found (b ∷ bs) =
    cond_both (is_letter b) _ _ (Finds (b ∷ bs)) (λ l. word_piece b bs l) (λ l.
    cond_both (is_digit b) _ _ (Finds (b ∷ bs)) (λ d. number_found b bs d _ refl) (λ d.
    cond_both (b == 39) _ _ (Finds (b ∷ bs)) (λ s. quoted_found b 39 bs form.Logic is_logic_byte s (logic_found bs)) (λ s.
    cond_both (b == 34) _ _ (Finds (b ∷ bs)) (λ q. quoted_found b 34 bs form.Text is_print_byte q (text_found bs)) (λ q.
    cond_both (is_blank_byte b) _ _ (Finds (b ∷ bs)) (λ k. blank_piece b bs k) (λ k.
    cond_both (opens_comment (b ∷ bs)) _ _ (Finds (b ∷ bs)) (λ c. comment_found b bs c) (λ c.
    symbol_found b bs l d s q k c _ _ refl refl))))))
