-- What each turn of the loop over a text's pieces keeps.
use Rattle.std.proofs.Common.{◌≡◌, ℕ, ◌+◌, ◌<◌, ◌≤◌, false, List, [], ◌∷◌, ◌++◌, length, take, drop, Option, Some, None, ◌∙◌, sym, ap, subst, append_assoc, arith}
use Rattle.std.specs.Prelude.{◌==◌, count_by}
use Rattle.std.proofs.Math.Seq.{take-add}
use Rattle.std.proofs.lemmas.List.{append-nil, map-append}
use Rattle.std.proofs.lemmas.List.Sums.{sum_by-append}
use Rattle.model_lexer.specs.Tokens as grammar
use Rattle.model_lexer.specs.declared.forms.Form.{Form}
use Rattle.model_lexer.specs.Forms.{is_passed}
use Rattle.model_lexer.specs.Meanings.{meaning}
use Rattle.model_lexer.specs.Cut.{IsPiece, line_at, Lexeme, IsGap, CutUpTo, CutFrom, IsStuck}
use Rattle.model_lexer.specs.declared.token.Token.{Token}
use Rattle.model_lexer.specs.Views.{lexeme_of, lexemes}
use Rattle.model_lexer.specs.declared.forms.Piece.{Piece}
use Rattle.model_lexer.specs.Fronts.{piece_at}
use Rattle.model_lexer.proofs.Longest.{HasNoPiece, Finds, found}
use Rattle.model_lexer.proofs.Cuts.{one_piece, piece_within, at_end, gap_in, gap_out, lexeme, token_in, token_out, stuck, up_to_token}

-- the tokens that go on from a place are those behind the tokens found before it
abbrev pub Fits : List ℕ → ℕ → List Lexeme → Type 0
Fits text at found = (ts : List Lexeme) → CutFrom text at ts → CutFrom text 0 (found ++ ts)

-- and all tokens of the text are these and such
abbrev pub Only : List ℕ → ℕ → List Lexeme → Type 0
Only text at found = (ts : List Lexeme) → CutFrom text 0 ts → (us : List Lexeme) × (ts ≡ found ++ us) × CutFrom text at us

pub line_past : (text : List ℕ) (at n : ℕ) → line_at text (at + n) ≡ line_at text at + count_by (λ b. b == 10) (take n (drop at text))
line_past text at n =
    let parts : count_by (λ b. b == 10) (take (at + n) text) ≡ count_by (λ b. b == 10) (take at text) + count_by (λ b. b == 10) (take n (drop at text)) =
    ap (count_by (λ b. b == 10)) (take-add at n text) ∙ sum_by-append _ (take at text) (take n (drop at text)) in
    omega arith

pub gap_fits : (text : List ℕ) (at n : ℕ) (found : List Lexeme) → IsGap (drop at text) n → Fits text at found → Fits text (at + n) found
gap_fits text at n found g h = λ ts c. h ts (gap_in text at n ts g c)

pub gap_only : (text : List ℕ) (at n : ℕ) (found : List Lexeme) → IsGap (drop at text) n → Only text at found → Only text (at + n) found
gap_only text at n found (f, a, p) h = λ ts c. let (us, e, d) = h ts c in (us, e, gap_out text at f n a us p d)

module _ (text : List ℕ) (at n : ℕ) (found : List Lexeme) (f : Form) (t : grammar.Token) (a : IsPiece (drop at text) f n) (m : meaning f (take n (drop at text)) ≡ Some t) where
  pub token_fits : Fits text at found → Fits text (at + n) (found ++ lexeme text at n t ∷ [])
  token_fits h = λ ts c. subst (λ (x : List Lexeme). CutFrom text 0 x) (sym (append_assoc found (lexeme text at n t ∷ []) ts)) (h (lexeme text at n t ∷ ts) (token_in text at n f t ts a m c))

  pub token_only : Only text at found → Only text (at + n) (found ++ lexeme text at n t ∷ [])
  token_only h = λ ts c.
      let (us, e, d) = h ts c in
      let (vs, e', d') = token_out text at n f t a m us d in
      (vs, e ∙ ap (λ (x : List Lexeme). found ++ x) e' ∙ sym (append_assoc found (lexeme text at n t ∷ []) vs), d')

-- at the end of the text those found are its tokens
pub all_found : (text : List ℕ) (at : ℕ) (found : List Lexeme) → at ≡ length text → Fits text at found → CutFrom text 0 found
all_found text at found e h = subst (λ (x : List Lexeme). CutFrom text 0 x) (append-nil found) (h [] ([], e))

pub only_found : (text : List ℕ) (at : ℕ) (found ts : List Lexeme) → at ≡ length text → Only text at found → CutFrom text 0 ts → found ≡ ts
only_found text at found ts here h c =
    let (us, e, d) = h ts c in
    let none : us ≡ [] = at_end text at us (omega arith) d in
    sym (append-nil found) ∙ ap (λ (x : List Lexeme). found ++ x) (sym none) ∙ sym e

pub none_found : (text : List ℕ) (at : ℕ) (found ts : List Lexeme) → at < length text → IsStuck (drop at text) → Only text at found → CutFrom text 0 ts → ⊥
none_found text at found ts h none only c = let (us, e, d) = only ts c in stuck text at h none us d

pub line_turn : (text rest bytes : List ℕ) (at n line ends : ℕ) → rest ≡ drop at text → bytes ≡ take n rest → ends ≡ count_by (λ b. b == 10) bytes → line ≡ line_at text at → line + ends ≡ line_at text (at + n)
line_turn text rest bytes at n line ends here first counted so_far =
    let all : ends ≡ count_by (λ b. b == 10) (take n (drop at text)) = counted ∙ ap (count_by (λ b. b == 10)) (first ∙ ap (take n) here) in
    let past : line_at text (at + n) ≡ line_at text at + count_by (λ b. b == 10) (take n (drop at text)) = line_past text at n in
    sym (past ∙ (ap (λ (x : ℕ). x + count_by (λ b. b == 10) (take n (drop at text))) (sym so_far) ∙ ap (λ (x : ℕ). line + x) (sym all)))

pub gap_within : (text : List ℕ) (at n : ℕ) → IsGap (drop at text) n → at + n ≤ length text
gap_within text at n (f, a, p) = (piece_within text at f n a).1

-- one more token is found
pub one_more : (found new : List Token) (x : Token) (l : Lexeme) → new ≡ found ++ x ∷ [] → lexeme_of x ≡ l → lexemes new ≡ lexemes found ++ l ∷ []
one_more found new x l e k = ap lexemes e ∙ map-append lexeme_of found (x ∷ []) ∙ ap (λ (y : Lexeme). lexemes found ++ y ∷ []) k

-- what is found at the front

pub found_is : (bytes : List ℕ) (p : Piece) → piece_at bytes ≡ Some p → IsPiece bytes p.form p.len
found_is bytes p e = subst (λ (o : Option Piece). Finds bytes o) e (found bytes)

pub nothing_found : (bytes : List ℕ) → piece_at bytes ≡ None → IsStuck bytes
nothing_found bytes e f n a =
    let none : HasNoPiece bytes = subst (λ (o : Option Piece). Finds bytes o) e (found bytes) in
    let differs : Some f ≡ None = sym a.formed ∙ none n a.within in
    cc

pub past_its_limit : (bytes : List ℕ) (p : Piece) → IsPiece bytes p.form p.len → is_passed p.form ≡ false → meaning p.form (take p.len bytes) ≡ None → IsStuck bytes
past_its_limit bytes p a q none f n b =
    let same = one_piece bytes p.form f p.len n a b in
    (ap is_passed (sym same.0) ∙ q, ap (λ (x : ℕ). meaning f (take x bytes)) (sym same.1) ∙ (ap (λ (x : Form). meaning x (take p.len bytes)) (sym same.0) ∙ none))

-- a token of this meaning stands at the front
abbrev pub Stands : List ℕ → ℕ → grammar.Token → Type 0
Stands bytes n t = (f : Form) × IsPiece bytes f n × (meaning f (take n bytes) ≡ Some t)

pub stands_within : (text : List ℕ) (at n : ℕ) (t : grammar.Token) → Stands (drop at text) n t → at + n ≤ length text
stands_within text at n t (f, a, m) = (piece_within text at f n a).1

module _ (text : List ℕ) (at n : ℕ) (found new : List Lexeme) (t : grammar.Token) (e : new ≡ found ++ lexeme text at n t ∷ []) where
  pub turn_fits : Stands (drop at text) n t → Fits text at found → Fits text (at + n) new
  turn_fits (f, a, m) h = subst (λ (x : List Lexeme). Fits text (at + n) x) (sym e) (token_fits text at n found f t a m h)

  pub turn_up_to : Stands (drop at text) n t → CutUpTo text 0 at found → CutUpTo text 0 (at + n) new
  turn_up_to (f, a, m) h = subst (λ (x : List Lexeme). CutUpTo text 0 (at + n) x) (sym e) (up_to_token text 0 at n f t found h a m)

  pub turn_only : Stands (drop at text) n t → Only text at found → Only text (at + n) new
  turn_only (f, a, m) h = subst (λ (x : List Lexeme). Only text (at + n) x) (sym e) (token_only text at n found f t a m h)

abbrev pub record_of : grammar.Token → ℕ → ℕ → ℕ → Lexeme
record_of t start end line = record { token = t; start = start; end = end; line = line }

-- a token with the line that was counted is the one with the line of its place
pub counted : (text : List ℕ) (at n line : ℕ) (t : grammar.Token) → line ≡ line_at text at → record_of t at (at + n) line ≡ lexeme text at n t
counted text at n line t e = ap (λ (x : ℕ). record_of t at (at + n) x) e
