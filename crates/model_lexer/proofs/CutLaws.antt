-- What the tokens of a text may be, their limits and their order.
use Rattle.std.proofs.Common.{◌≡◌, ℕ, ◌+◌, ◌<◌, ◌≤◌, Bool, true, false, ◌&&◌, cond, List, [], ◌∷◌, length, take, drop, Option, Some, None, ◌∙◌, refl, sym, ap, ⊎_elim, arith}
use Rattle.std.specs.Prelude.{IfSome, option_map, nat_lt, nat_le, map, not, find}
use Rattle.std.specs.List.{list_all}
use Rattle.std.specs.Str.{bytes_eq}
use Rattle.std.proofs.lemmas.Bool.{and_from, and_parts, cases_lt}
use Rattle.std.proofs.lemmas.List.{length-reverse, length-map}
use Rattle.model_tree.specs.LogicValues.declared.kinds.Digit.{Digit}
use Rattle.model_tree.specs.declared.vocabulary.Word.{Word}
use Rattle.model_tree.specs.declared.vocabulary.Symbol.{Symbol}
use Rattle.model_tree.specs.declared.vocabulary.TheConstants.{WORDS}
use Rattle.model_tree.specs.Vocabulary.{word_of, word_text}
use Rattle.model_tree.specs.Languages.{keeps_language}
use Rattle.model_tree.specs.Tree as tree
use Rattle.model_tree.specs.Leaves.{is_name, is_print_text}
use Rattle.model_tree.specs.Limits.{is_number, is_sound, fits_head}
use Rattle.model_lexer.specs.Tokens.{Token, name, number, logic, quoted, symbol, symbol_of, is_limited, are_limited, each_is, word_or_name}
use Rattle.model_lexer.specs.Languages.{in_language}
use Rattle.model_lexer.specs.Versions.{is_later_word, is_plain}
use Rattle.model_lexer.proofs.GrammarTokens.{keeps_to, source_sound, source_fits, language_limited}
use Rattle.std.specs.Str.Parse.{digits_value}
use Rattle.model_lexer.specs.declared.forms.Form.{Form}
use Rattle.model_lexer.specs.declared.forms.Form.TheVariants as form
use Rattle.model_lexer.specs.declared.forms.Piece.{Piece}
use Rattle.model_lexer.specs.Forms.{form_of, is_passed}
use Rattle.model_lexer.specs.Meanings.{logic_digit, logic_digits, number_within, logic_within, inner, meaning}
use Rattle.model_lexer.specs.Fronts.{piece_at}
use Rattle.model_lexer.specs.Cut.{IsPiece, Lexeme, AreGaps, CutFrom}
use Rattle.model_lexer.specs.Laws.{with_lines, AreInOrder, HasPiece, IsPastLimit}
use Rattle.model_lexer.specs.Reads.{Reads}
use Rattle.model_lexer.proofs.Longest.{Finds, found}
use Rattle.model_lexer.proofs.Cuts.{piece_some, piece_within, piece_here, meant_here, one_piece}

-- no word of a text is one that language 2 has besides

abbrev pub IsPlain : Token → Type 0
IsPlain t = is_plain t ≡ true

found_all : {X : Type 0} (test passes : X → Bool) (xs : List X) (x : X) → list_all passes xs ≡ true → find test xs ≡ Some x → passes x ≡ true
found_all test passes [] x all e = cc
found_all test passes (y ∷ ys) x all e = let both = and_parts (passes y) (list_all passes ys) all in by_test (test y) both.0 e (λ h. found_all test passes ys x both.1 h)
  where
    by_test : (b : Bool) → passes y ≡ true → cond b (Some y) (find test ys) ≡ Some x → (find test ys ≡ Some x → passes x ≡ true) → passes x ≡ true
    by_test true here e more = let same : y ≡ x = cc in ap passes (sym same) ∙ here
    by_test false here e more = more e

name_plain : (b : Bool) (bytes : List ℕ) → IfSome (cond b (Some (name bytes)) None) IsPlain
name_plain true bytes = refl
name_plain false bytes = tt

number_plain : (o : Option ℕ) → IfSome (option_map number o) IsPlain
number_plain None = tt
number_plain (Some n) = refl

logic_plain : (o : Option (List Digit)) → IfSome (option_map logic o) IsPlain
logic_plain None = tt
logic_plain (Some ds) = refl

text_plain : (b : Bool) (bytes : List ℕ) → IfSome (cond b (Some (quoted bytes)) None) IsPlain
text_plain true bytes = refl
text_plain false bytes = tt

symbol_plain : (o : Option Symbol) → IfSome (option_map symbol o) IsPlain
symbol_plain None = tt
symbol_plain (Some x) = refl

word_plain : (o : Option Word) (bytes : List ℕ) → word_of bytes ≡ o → IfSome (word_or_name o bytes) IsPlain
unfolding word_of
word_plain (Some u) bytes e = found_all (λ x. bytes_eq (word_text x) bytes) (λ x. not (is_later_word x)) WORDS u refl e
word_plain None bytes e = name_plain (is_name bytes) bytes

meaning_plain : (f : Form) (bytes : List ℕ) → IfSome (meaning f bytes) IsPlain
meaning_plain form.Blank bytes = tt
meaning_plain form.Comment bytes = tt
meaning_plain form.Word bytes = word_plain (word_of bytes) bytes refl
meaning_plain form.Decimal bytes = number_plain (number_within (digits_value 10 bytes))
meaning_plain form.Hexadecimal bytes = number_plain (number_within (digits_value 16 (drop 2 bytes)))
meaning_plain form.Logic bytes = logic_plain (logic_within (inner bytes))
meaning_plain form.Text bytes = text_plain (is_print_text (inner bytes)) (inner bytes)
meaning_plain form.Symbol bytes = symbol_plain (symbol_of bytes)

token_plain : (o : Option Token) (t : Token) → IfSome o IsPlain → o ≡ Some t → is_plain t ≡ true
token_plain None t h e = cc
token_plain (Some u) t h e = let same : u ≡ t = cc in ap is_plain (sym same) ∙ h

pub cut_plain : (text : List ℕ) (at : ℕ) (ts : List Lexeme) → CutFrom text at ts → each_is is_plain (with_lines ts) ≡ true
cut_plain text at [] c = refl
cut_plain text at (t ∷ ts) (gap, k, more) =
    and_from (is_plain t.token) (each_is is_plain (with_lines ts)) (token_plain (meaning k.form (take k.len (drop t.start text))) t.token (meaning_plain k.form (take k.len (drop t.start text))) k.meant) (cut_plain text t.end ts more)

pub reads_keeps : (text : List ℕ) (x : tree.Source) → Reads text x → keeps_language x.head x.model ≡ true
reads_keeps text x (ts, cut, derived, few) = keeps_to x (with_lines ts) derived (cut_plain text 0 ts cut)

-- the limits

abbrev IsLimited : Token → Type 0
IsLimited t = is_limited t ≡ true

name_limited : (b : Bool) (bytes : List ℕ) → (b ≡ true → is_name bytes ≡ true) → IfSome (cond b (Some (name bytes)) None) IsLimited
name_limited true bytes f = f refl
name_limited false bytes f = tt

word_limited : (o : Option Word) (bytes : List ℕ) → IfSome (word_or_name o bytes) IsLimited
word_limited (Some w) bytes = refl
word_limited None bytes = name_limited (is_name bytes) bytes (λ e. e)

number_limited : (b : Bool) (n : ℕ) → (b ≡ true → is_number n ≡ true) → IfSome (option_map number (cond b (Some n) None)) IsLimited
number_limited true n f = f refl
number_limited false n f = tt

digits_limited : (b : Bool) (ds : List Digit) → (b ≡ true → is_limited (logic ds) ≡ true) → IfSome (option_map logic (cond b (Some ds) None)) IsLimited
digits_limited true ds f = f refl
digits_limited false ds f = tt

length_digits : (bytes : List ℕ) → length (logic_digits bytes) ≡ length bytes
length_digits bytes = length-reverse (map logic_digit bytes) ∙ length-map bytes logic_digit

logic_limited : (bytes : List ℕ) → (nat_lt 0 (length bytes) && nat_le (length bytes) 64) ≡ true → is_limited (logic (logic_digits bytes)) ≡ true
logic_limited bytes h = ap (λ (n : ℕ). nat_lt 0 n && nat_le n 64) (length_digits bytes) ∙ h

text_limited : (b : Bool) (bytes : List ℕ) → (b ≡ true → is_print_text bytes ≡ true) → IfSome (cond b (Some (quoted bytes)) None) IsLimited
text_limited true bytes f = f refl
text_limited false bytes f = tt

symbol_limited : (o : Option Symbol) → IfSome (option_map symbol o) IsLimited
symbol_limited None = tt
symbol_limited (Some s) = refl

meaning_limited : (f : Form) (bytes : List ℕ) → IfSome (meaning f bytes) IsLimited
meaning_limited form.Blank bytes = tt
meaning_limited form.Comment bytes = tt
meaning_limited form.Word bytes = word_limited (word_of bytes) bytes
meaning_limited form.Decimal bytes = number_limited (is_number (digits_value 10 bytes)) (digits_value 10 bytes) (λ e. e)
meaning_limited form.Hexadecimal bytes = number_limited (is_number (digits_value 16 (drop 2 bytes))) (digits_value 16 (drop 2 bytes)) (λ e. e)
meaning_limited form.Logic bytes = digits_limited (nat_lt 0 (length (inner bytes)) && nat_le (length (inner bytes)) 64) (logic_digits (inner bytes)) (logic_limited (inner bytes))
meaning_limited form.Text bytes = text_limited (is_print_text (inner bytes)) (inner bytes) (λ e. e)
meaning_limited form.Symbol bytes = symbol_limited (symbol_of bytes)

token_limited : (o : Option Token) (t : Token) → IfSome o IsLimited → o ≡ Some t → is_limited t ≡ true
token_limited None t h e = cc
token_limited (Some u) t h e = let same : u ≡ t = cc in ap is_limited (sym same) ∙ h

pub cut_limited : (text : List ℕ) (at : ℕ) (ts : List Lexeme) → CutFrom text at ts → are_limited (with_lines ts) ≡ true
cut_limited text at [] c = refl
cut_limited text at (t ∷ ts) (gap, k, more) =
    and_from (is_limited t.token) (are_limited (with_lines ts)) (token_limited (meaning k.form (take k.len (drop t.start text))) t.token (meaning_limited k.form (take k.len (drop t.start text))) k.meant) (cut_limited text t.end ts more)

-- and so do they in the language of the text
pub language_cut : (text : List ℕ) (ts : List Lexeme) → CutFrom text 0 ts → are_limited (in_language (with_lines ts)) ≡ true
language_cut text ts cut = language_limited (with_lines ts) (cut_limited text 0 ts cut)

pub reads_sound : (text : List ℕ) (x : tree.Source) → Reads text x → is_sound x.model ≡ true
reads_sound text x (ts, cut, derived, few) = source_sound x (in_language (with_lines ts)) derived (language_cut text ts cut) few

pub reads_fits : (text : List ℕ) (x : tree.Source) → Reads text x → fits_head x.head ≡ true
reads_fits text x (ts, cut, derived, few) = source_fits x (in_language (with_lines ts)) derived (language_cut text ts cut)

gaps_up : (text : List ℕ) (at up : ℕ) (ns : List ℕ) → AreGaps text at up ns → at ≤ up
gaps_up text at up [] e = omega arith
gaps_up text at up (n ∷ ns) (g, gaps) = let k : at + n ≤ up = gaps_up text (at + n) up ns gaps in omega arith

pub cut_ordered : (text : List ℕ) (at : ℕ) (ts : List Lexeme) → CutFrom text at ts → AreInOrder at (length text) ts
cut_ordered text at [] (ns, gaps) = gaps_up text at (length text) ns gaps
cut_ordered text at (t ∷ ts) ((ns, gaps), k, more) =
    let some : 0 < k.len = piece_some (drop t.start text) k.form k.len k.piece in
    (gaps_up text at t.start ns gaps, omega (arith, k.ends), cut_ordered text t.end ts more)

pub has_piece : (bytes : List ℕ) (f : Form) (m : ℕ) → m ≤ length bytes → form_of (take m bytes) ≡ Some f → HasPiece bytes m
has_piece bytes f m w e = from (piece_at bytes) (found bytes)
  where
    from : (o : Option Piece) → Finds bytes o → HasPiece bytes m
    from None none = let no : Some f ≡ None = sym e ∙ none m w in cc
    from (Some p) a = (
      p.form,
      p.len,
      a,
      ⊎_elim
          (λ (h : p.len < m). let no : Some f ≡ None = sym e ∙ a.longest m h w in cc)
          (λ (h : m ≤ p.len). h)
          (cases_lt p.len m),
    )

passed_apart : (bytes : List ℕ) (f g : Form) (n m : ℕ) → IsPiece bytes f n → is_passed f ≡ false → IsPiece bytes g m → is_passed g ≡ true → ⊥
passed_apart bytes f g n m a p b q =
    let same : f ≡ g = (one_piece bytes f g n m a b).0 in
    let no : false ≡ true = sym p ∙ ap is_passed same ∙ q in
    cc

meant_apart : (bytes : List ℕ) (f g : Form) (n m : ℕ) (t : Token) → IsPiece bytes f n → meaning f (take n bytes) ≡ None → IsPiece bytes g m → meaning g (take m bytes) ≡ Some t → ⊥
meant_apart bytes f g n m t a none b some =
    let same = one_piece bytes f g n m a b in
    let no : None ≡ Some t = sym none ∙ ap (λ (x : ℕ). meaning f (take x bytes)) same.1 ∙ ap (λ (x : Form). meaning x (take m bytes)) same.0 ∙ some in
    cc

pub no_cut_past : (text : List ℕ) (at n : ℕ) (f : Form) → IsPastLimit (drop at text) f n → (ts : List Lexeme) → CutFrom text at ts → ⊥
no_cut_past text at n f (a, p, none) [] ([], e) = let w = piece_within text at f n a in absurd (omega arith)
no_cut_past text at n f (a, p, none) [] ((m ∷ ns), ((g, b, q), gaps)) = passed_apart (drop at text) f g n m a p b q
no_cut_past text at n f (a, p, none) (t ∷ ts) (((m ∷ ns), ((g, b, q), gaps)), k, more) = passed_apart (drop at text) f g n m a p b q
no_cut_past text at n f (a, p, none) (t ∷ ts) (([], e), k, more) = meant_apart (drop at text) f k.form n k.len t.token a none (piece_here text at t e k) (meant_here text at t e k)
