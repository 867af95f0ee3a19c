-- What bytes read as, whatever text they end.
use Rattle.std.proofs.Common.{◌≡◌, ℕ, ◌+◌, ◌-◌, ◌≤◌, List, [], ◌∷◌, ◌++◌, length, length-drop, take, drop, Some, ◌∙◌, refl, sym, ap, subst, arith}
use Rattle.std.specs.Prelude.{map, if◌then◌else◌}
use Rattle.std.proofs.Math.Seq.{take-append_seam, drop-append_seam}
use Rattle.std.proofs.lemmas.List.{drop-drop}
use Rattle.model_print.specs.ModelTree.Vocabulary.{word_text}
use Rattle.model_lexer.specs.Tokens.{Token, name, number, logic, quoted, word, symbol}
use Rattle.model_lexer.specs.Versions.{is_later_word}
use Rattle.model_lexer.specs.declared.forms.Form.{Form}
use Rattle.model_lexer.specs.declared.forms.Form.TheVariants as form
use Rattle.model_lexer.specs.Meanings.{meaning}
use Rattle.model_lexer.specs.Fronts.{piece_at, piece}
use Rattle.model_lexer.specs.Cut.{IsPiece, Lexeme, IsGap, CutFrom}
use Rattle.model_lexer.proofs.Cuts.{piece_within, gap_in, token_in, lexeme}
use Rattle.model_lexer.proofs.Longest.{Finds, found}

-- a token as a text is cut into it, before the words that language 2 has besides are known
abbrev pub as_cut : Token → Token
as_cut (name x) = name x
as_cut (number n) = number n
as_cut (logic ds) = logic ds
as_cut (quoted x) = quoted x
as_cut (word u) = if is_later_word u then name (word_text u) else word u
as_cut (symbol u) = symbol u

-- the end of any text, where it is these bytes, is cut into these tokens
abbrev pub ReadsAs : List ℕ → List Token → Type 0
ReadsAs bytes ts = (text : List ℕ) (at : ℕ) → at ≤ length text → drop at text ≡ bytes → (ls : List Lexeme) × (map (λ l. l.token) ls ≡ ts) × CutFrom text at ls

pub reads_nothing : ReadsAs [] []
reads_nothing text at w e =
    let size : length (drop at text) ≡ length text - at = length-drop at text in
    let none : length (drop at text) ≡ 0 = ap length e in
    ([], refl, ([], omega arith))

module _ (text bytes : List ℕ) (at : ℕ) (e : drop at text ≡ bytes) where
  past : (n : ℕ) → drop (at + n) text ≡ drop n bytes
  past n = sym (drop-drop n at text) ∙ ap (drop n) e

  here : (f : Form) (n : ℕ) → IsPiece bytes f n → IsPiece (drop at text) f n
  here f n a = subst (λ (x : List ℕ). IsPiece x f n) (sym e) a

  inside : (f : Form) (n : ℕ) → IsPiece bytes f n → at + n ≤ length text
  inside f n a = (piece_within text at f n (here f n a)).1

pub reads_gap : (bytes : List ℕ) (n : ℕ) (ts : List Token) → IsGap bytes n → ReadsAs (drop n bytes) ts → ReadsAs bytes ts
reads_gap bytes n ts (f, a, p) h text at w e =
    let (ls, same, c) = h text (at + n) (inside text bytes at e f n a) (past text bytes at e n) in
    (ls, same, gap_in text at n ls (f, here text bytes at e f n a, p) c)

pub reads_token : (bytes : List ℕ) (f : Form) (n : ℕ) (t : Token) (ts : List Token) → IsPiece bytes f n → meaning f (take n bytes) ≡ Some t → ReadsAs (drop n bytes) ts → ReadsAs bytes (t ∷ ts)
reads_token bytes f n t ts a m h text at w e =
    let (ls, same, c) = h text (at + n) (inside text bytes at e f n a) (past text bytes at e n) in
    let means : meaning f (take n (drop at text)) ≡ Some t = ap (λ (x : List ℕ). meaning f (take n x)) e ∙ m in
    (lexeme text at n t ∷ ls, ap (λ (xs : List Token). t ∷ xs) same, token_in text at n f t ls (here text bytes at e f n a) means c)

-- what is found at the front, with what is read behind it
pub reads_front : (w r : List ℕ) (f : Form) (t : Token) (ts : List Token) → piece_at (w ++ r) ≡ Some (piece f (length w)) → meaning f w ≡ Some t → ReadsAs r ts → ReadsAs (w ++ r) (t ∷ ts)
reads_front w r f t ts e m h =
    reads_token (w ++ r) f (length w) t ts
    (subst (Finds (w ++ r)) e (found (w ++ r)))
    (ap (meaning f) (take-append_seam w r) ∙ m)
    (subst (λ (x : List ℕ). ReadsAs x ts) (sym (drop-append_seam w r)) h)

-- a blank or the end of a line in front
pub reads_blank : (b : ℕ) (r : List ℕ) (ts : List Token) → piece_at (b ∷ r) ≡ Some (piece form.Blank 1) → ReadsAs r ts → ReadsAs (b ∷ r) ts
reads_blank b r ts e h = reads_gap (b ∷ r) 1 ts (form.Blank, subst (Finds (b ∷ r)) e (found (b ∷ r)), refl) h
