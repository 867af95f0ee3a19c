-- What a page is cut into.
use Rattle.std.proofs.Common.{◌≡◌, ℕ, zero, suc, ◌+◌, ◌-◌, ◌≤◌, Bool, true, false, cond, List, [], ◌∷◌, ◌++◌, length, length-drop, take, drop, count_by, Some, append_assoc, ◌∙◌, refl, sym, ap, subst, arith}
use Rattle.std.specs.Prelude.{not, ◌==◌}
use Rattle.std.specs.List.{list_all}
use Rattle.std.proofs.Math.Seq.{take-append_seam, drop-append_seam}
use Rattle.std.proofs.lemmas.Bool.{and_parts}
use Rattle.std.proofs.lemmas.List.{drop-drop, append-nil}
use Rattle.std.proofs.lemmas.List.Sums.{sum_by-cons}
use Rattle.model_lexer.specs.Tokens.{Token, Tokens}
use Rattle.model_lexer.specs.declared.forms.Form.{Form}
use Rattle.model_lexer.specs.declared.forms.Form.TheVariants as form
use Rattle.model_lexer.specs.Meanings.{meaning}
use Rattle.model_lexer.specs.Fronts.{piece_at, piece}
use Rattle.model_lexer.specs.Cut.{IsPiece, line_at, Lexeme, CutFrom, Cut}
use Rattle.model_lexer.specs.Laws.{with_lines}
use Rattle.model_lexer.proofs.Cuts.{piece_within, gap_in, token_in, lexeme}
use Rattle.model_lexer.proofs.Longest.{Finds, found}
use Rattle.model_lexer.proofs.Turns.{line_past}
use Rattle.clocked.specs.Expanded.{line_behind}
use Rattle.expanded_text.specs.Page.{spelled, line_ends, token_at, tokens_from, page}
use Rattle.expanded_text.proofs.Blanks.{piece_stands}
use Rattle.expanded_text.proofs.Spelled.{is_inside, IsSpelled}
use Rattle.expanded_text.proofs.Rising.{Rising}

-- the end of any text, where it is these bytes and begins on this line, is cut into these tokens
abbrev pub ReadsAs : ℕ → List ℕ → Tokens → Type 0
ReadsAs line bytes ts = (text : List ℕ) (at : ℕ) → at ≤ length text → drop at text ≡ bytes → line_at text at ≡ line → (ls : List Lexeme) × (with_lines ls ≡ ts) × CutFrom text at ls

reads_nothing : (line : ℕ) → ReadsAs line [] []
reads_nothing line text at w e l =
    let size : length (drop at text) ≡ length text - at = length-drop at text in
    let none : length (drop at text) ≡ 0 = ap length e in
    ([], refl, ([], omega arith))

-- where a piece begins, and what is behind it
module _ (text bytes : List ℕ) (at : ℕ) (e : drop at text ≡ bytes) where
  past : (n : ℕ) → drop (at + n) text ≡ drop n bytes
  past n = sym (drop-drop n at text) ∙ ap (drop n) e

  here : (f : Form) (n : ℕ) → IsPiece bytes f n → IsPiece (drop at text) f n
  here f n a = subst (λ (x : List ℕ). IsPiece x f n) (sym e) a

  inside : (f : Form) (n : ℕ) → IsPiece bytes f n → at + n ≤ length text
  inside f n a = (piece_within text at f n (here f n a)).1

  lines : (line n : ℕ) → line_at text at ≡ line → line_at text (at + n) ≡ line + count_by (λ b. b == 10) (take n bytes)
  lines line n l =
      line_past text at n
      ∙ ap (λ (x : ℕ). x + count_by (λ b. b == 10) (take n (drop at text))) l
      ∙ ap (λ (x : List ℕ). line + count_by (λ b. b == 10) (take n x)) e

-- an end of a line, or a blank, in front
reads_blank : (b : ℕ) (line ends : ℕ) (bytes : List ℕ) (ts : Tokens) → piece_at (b ∷ bytes) ≡ Some (piece form.Blank 1) → count_by (λ x. x == 10) (take 1 (b ∷ bytes)) ≡ ends
    → ReadsAs (line + ends) bytes ts → ReadsAs line (b ∷ bytes) ts
reads_blank b line ends bytes ts p count h text at w e l =
    let a : IsPiece (b ∷ bytes) form.Blank 1 = subst (Finds (b ∷ bytes)) p (found (b ∷ bytes)) in
    let (ls, same, c) = h text (at + 1) (inside text (b ∷ bytes) at e form.Blank 1 a) (past text (b ∷ bytes) at e 1) (lines text (b ∷ bytes) at e line 1 l ∙ ap (λ (x : ℕ). line + x) count) in
    (ls, same, gap_in text at 1 ls (form.Blank, here text (b ∷ bytes) at e form.Blank 1 a, refl) c)

reads_end : (line : ℕ) (bytes : List ℕ) (ts : Tokens) → ReadsAs (line + 1) bytes ts → ReadsAs line (10 ∷ bytes) ts
reads_end line bytes ts h = reads_blank 10 line 1 bytes ts refl refl h

reads_ends : (count line : ℕ) (bytes : List ℕ) (ts : Tokens) → ReadsAs (line + count) bytes ts → ReadsAs line (line_ends count ++ bytes) ts
reads_ends zero line bytes ts h = let same : line + 0 ≡ line = omega arith in subst (λ (x : ℕ). ReadsAs x bytes ts) same h
reads_ends (suc n) line bytes ts h =
    let same : line + suc n ≡ (line + 1) + n = omega arith in
    reads_end line (line_ends n ++ bytes) ts (reads_ends n (line + 1) bytes ts (subst (λ (x : ℕ). ReadsAs x bytes ts) same h))

-- bytes that end no line
no_end : (b : Bool) (one : ℕ) → not b ≡ true → cond b one 0 ≡ 0
no_end true one h = cc
no_end false one h = refl

none_both : (a b : ℕ) → a ≡ 0 → b ≡ 0 → a + b ≡ 0
none_both a b h k = omega arith

no_ends : (xs : List ℕ) → list_all is_inside xs ≡ true → count_by (λ b. b == 10) xs ≡ 0
no_ends [] h = refl
no_ends (x ∷ xs) h =
    let both = and_parts (is_inside x) (list_all is_inside xs) h in
    sum_by-cons (λ (b : ℕ). cond (b == 10) 1 0) x xs ∙ none_both (cond (x == 10) 1 0) (count_by (λ b. b == 10) xs) (no_end (x == 10) 1 both.0) (no_ends xs both.1)

-- a token, and a blank behind it
reads_token : (w r : List ℕ) (t : Token) (line : ℕ) (ts : Tokens) → IsSpelled t w → ReadsAs line r ts → ReadsAs line (w ++ 32 ∷ r) ((t, line) ∷ ts)
reads_token w r t line ts sp h text at within e l =
    let a : IsPiece (w ++ 32 ∷ r) sp.form (length w) = piece_stands w r sp.form sp.stands in
    let rest : drop (at + length w) text ≡ 32 ∷ r = past text (w ++ 32 ∷ r) at e (length w) ∙ drop-append_seam w (32 ∷ r) in
    let same_line : line_at text (at + length w) ≡ line =
    lines text (w ++ 32 ∷ r) at e line (length w) l
    ∙ ap (λ (x : List ℕ). line + count_by (λ b. b == 10) x) (take-append_seam w (32 ∷ r))
    ∙ ap (λ (x : ℕ). line + x) (no_ends w sp.one_line)
    ∙ plus_none line in
    let blank : ReadsAs line (32 ∷ r) ts = reads_blank 32 line 0 r ts refl refl (subst (λ (x : ℕ). ReadsAs x r ts) (sym (plus_none line)) h) in
    let (ls, same, c) = blank text (at + length w) (inside text (w ++ 32 ∷ r) at e sp.form (length w) a) rest same_line in
    let means : meaning sp.form (take (length w) (drop at text)) ≡ Some t =
    ap (λ (x : List ℕ). meaning sp.form (take (length w) x)) e ∙ ap (meaning sp.form) (take-append_seam w (32 ∷ r)) ∙ sp.meant in
    (lexeme text at (length w) t ∷ ls, told (line_at text at) l ls same, token_in text at (length w) sp.form t ls (here text (w ++ 32 ∷ r) at e sp.form (length w) a) means c)
  where
    plus_none : (n : ℕ) → n + 0 ≡ n
    plus_none n = omega arith

    told : (at_line : ℕ) → at_line ≡ line → (ls : List Lexeme) → with_lines ls ≡ ts → (t, at_line) ∷ with_lines ls ≡ (t, line) ∷ ts
    told at_line l ls same = ap (λ (x : ℕ). (t, x) ∷ with_lines ls) l ∙ ap (λ (x : Tokens). (t, line) ∷ x) same

-- and on its line
reads_at : (from line : ℕ) (r : List ℕ) (t : Token) (ts : Tokens) → from ≤ line → IsSpelled t (spelled t) → ReadsAs line r ts → ReadsAs from (token_at from t line ++ r) ((t, line) ∷ ts)
reads_at from line r t ts up sp h =
    let whole : token_at from t line ++ r ≡ line_ends (line - from) ++ (spelled t ++ 32 ∷ r) =
    append_assoc (line_ends (line - from)) (spelled t ++ 32 ∷ []) r ∙ ap (λ (x : List ℕ). line_ends (line - from) ++ x) (append_assoc (spelled t) (32 ∷ []) r) in
    let same : from + (line - from) ≡ line = omega arith in
    subst (λ (x : List ℕ). ReadsAs from x ((t, line) ∷ ts)) (sym whole)
    (reads_ends (line - from) from (spelled t ++ 32 ∷ r) ((t, line) ∷ ts) (subst (λ (x : ℕ). ReadsAs x (spelled t ++ 32 ∷ r) ((t, line) ∷ ts)) (sym same) (reads_token (spelled t) r t line ts sp h)))

-- each of these tokens is written
abbrev pub AreSpelled : Tokens → Type 0
AreSpelled [] = Unit {0}
AreSpelled (t ∷ ts) = IsSpelled t.0 (spelled t.0) × AreSpelled ts

reads_tokens : (from : ℕ) (ts : Tokens) (tail : List ℕ) → Rising from ts → AreSpelled ts → ReadsAs (line_behind from ts) tail [] → ReadsAs from (tokens_from from ts ++ tail) ts
reads_tokens from [] tail up sp h = h
reads_tokens from (t ∷ ts) tail up sp h =
    subst (λ (x : List ℕ). ReadsAs from x (t ∷ ts)) (sym (append_assoc (token_at from t.0 t.1) (tokens_from t.1 ts) tail))
    (reads_at from t.1 (tokens_from t.1 ts ++ tail) t.0 ts up.0 sp.0 (reads_tokens t.1 ts tail up.1 sp.1 h))

-- a page is cut into its tokens
pub page_cut : (last : ℕ) (ts : Tokens) → Rising 1 ts → AreSpelled ts → (us : List Lexeme) × (with_lines us ≡ ts) × Cut (page last ts) us
page_cut last ts up sp =
    let ends : ReadsAs (line_behind 1 ts) (line_ends (last - line_behind 1 ts) ++ []) [] =
    reads_ends (last - line_behind 1 ts) (line_behind 1 ts) [] [] (reads_nothing (line_behind 1 ts + (last - line_behind 1 ts))) in
    let tail : ReadsAs (line_behind 1 ts) (line_ends (last - line_behind 1 ts)) [] =
    subst (λ (x : List ℕ). ReadsAs (line_behind 1 ts) x []) (append-nil (line_ends (last - line_behind 1 ts))) ends in
    reads_tokens 1 ts (line_ends (last - line_behind 1 ts)) up sp tail (page last ts) 0 (omega arith) refl refl
