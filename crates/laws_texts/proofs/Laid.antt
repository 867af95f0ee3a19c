-- That a layout reads as the tokens of its pieces.
use Rattle.std.proofs.Common.{◌≡◌, ℕ, zero, suc, ◌-◌, Bool, true, false, ◌&&◌, ◌||◌, List, [], ◌∷◌, ◌++◌, length, take, codes, append_assoc, append-nil, ◌∙◌, refl, sym, ap, subst, ⊎_elim, arith}
use Rattle.std.specs.Prelude.{not, ◌==◌, map}
use Rattle.std.specs.List.{list_all}
use Rattle.std.proofs.lemmas.Bool.{and_parts, cases_Bool, eqb-true}
use Rattle.model_print.specs.ModelTree.Leaves.{is_word_byte}
use Rattle.model_lexer.specs.Tokens.{Token}
use Rattle.model_lexer.specs.Cut.{Lexeme, Cut}
use Rattle.model_print.specs.declared.shapes.Shape.{Shape}
use Rattle.model_print.specs.declared.shapes.Shape.TheVariants as shape
use Rattle.model_print.specs.Layout.{Page, Piece, is_spaced, ends_line, margin_after, margin_before, gap, line_end, put, put_all, blank, layout}
use Rattle.laws_texts.proofs.Reading.{as_cut, ReadsAs, reads_nothing, reads_blank}
use Rattle.laws_texts.proofs.Fronts.{is_second}
use Rattle.laws_texts.proofs.Pieces.{is_open, is_stop, is_operator, is_tight, Stops, Opens, Reads}

-- the pieces read as these tokens, one behind another
abbrev pub Mean : List Piece → List Token → Type 0
Mean [] ts = ts ≡ []
Mean (p ∷ ps) ts = (us : List Token) × (vs : List Token) × (ts ≡ us ++ vs) × Reads p us × Mean ps vs

-- no operator stands without a blank behind a token: the truth value says whether one stands in front that has none
abbrev pub apart : Bool → List Piece → Bool
apart tight [] = true
apart tight (p ∷ ps) = not (tight && is_operator p.shape) && apart (is_tight p.shape) ps

-- what pieces add to a page
abbrev laid : Page → List Piece → List ℕ
laid page [] = []
laid page (p ∷ ps) = gap page p.shape ++ (p.bytes ++ (line_end p.shape ++ laid (put page p) ps))

laid_is : (page : Page) (ps : List Piece) → (put_all page ps).text ≡ page.text ++ laid page ps
laid_is page [] = sym (append-nil page.text)
laid_is page (p ∷ ps) =
    let rest : List ℕ = laid (put page p) ps in
    laid_is (put page p) ps
    ∙ append_assoc ((page.text ++ gap page p.shape) ++ p.bytes) (line_end p.shape) rest
    ∙ append_assoc (page.text ++ gap page p.shape) p.bytes (line_end p.shape ++ rest)
    ∙ append_assoc page.text (gap page p.shape) (p.bytes ++ (line_end p.shape ++ rest))

-- which shapes stand without a blank between them
shapes_apart : (a b : Shape) → (((ends_line a || is_spaced a b) || (not (is_open a) || is_stop b)) && ((ends_line a || is_spaced a b) || ((is_tight a && is_operator b) || not (is_operator b)))) ≡ true
shapes_apart shape.Plain shape.Plain = refl
shapes_apart shape.Plain _ = refl
shapes_apart shape.Word shape.Plain = refl
shapes_apart shape.Word _ = refl
shapes_apart shape.Quoted shape.Plain = refl
shapes_apart shape.Quoted _ = refl
shapes_apart shape.Operator shape.Plain = refl
shapes_apart shape.Operator _ = refl
shapes_apart shape.Prefix shape.Plain = refl
shapes_apart shape.Prefix _ = refl
shapes_apart shape.Open shape.Plain = refl
shapes_apart shape.Open _ = refl
shapes_apart shape.Close shape.Plain = refl
shapes_apart shape.Close _ = refl
shapes_apart shape.Comma shape.Plain = refl
shapes_apart shape.Comma _ = refl
shapes_apart shape.Joint shape.Plain = refl
shapes_apart shape.Joint _ = refl
shapes_apart shape.Semicolon shape.Plain = refl
shapes_apart shape.Semicolon _ = refl
shapes_apart shape.LeftBrace shape.Plain = refl
shapes_apart shape.LeftBrace _ = refl
shapes_apart shape.RightBrace shape.Plain = refl
shapes_apart shape.RightBrace _ = refl

open_apart : (a b : Shape) → (ends_line a || is_spaced a b) || (not (is_open a) || is_stop b) ≡ true
open_apart a b = (and_parts ((ends_line a || is_spaced a b) || (not (is_open a) || is_stop b)) ((ends_line a || is_spaced a b) || ((is_tight a && is_operator b) || not (is_operator b))) (shapes_apart a b)).0

operator_apart : (a b : Shape) → (ends_line a || is_spaced a b) || ((is_tight a && is_operator b) || not (is_operator b)) ≡ true
operator_apart a b = (and_parts ((ends_line a || is_spaced a b) || (not (is_open a) || is_stop b)) ((ends_line a || is_spaced a b) || ((is_tight a && is_operator b) || not (is_operator b))) (shapes_apart a b)).1

third : (x y z u : Bool) → (x || y) || (not z || u) ≡ true → x ≡ false → y ≡ false → z ≡ true → u ≡ true
third x y z u h a b c = let k : (false || false) || (not true || u) ≡ true = rw (a, b, c) at h in k

fourth : (x y z u : Bool) → (x || y) || ((z && u) || not u) ≡ true → x ≡ false → y ≡ false → not (z && u) ≡ true → u ≡ false
fourth x y z false h a b c = refl
fourth true y z true h a b c = cc
fourth false true z true h a b c = cc
fourth false false true true h a b c = cc
fourth false false false true h a b c = cc

neighbour : (a b : Shape) (bytes : List ℕ) → ends_line a ≡ false → is_spaced a b ≡ false → not (is_tight a && is_operator b) ≡ true → Opens b bytes → Stops a bytes
neighbour a b bytes e f g o = record {
  mark = o.mark (fourth (ends_line a) (is_spaced a b) (is_tight a) (is_operator b) (operator_apart a b) e f g);
  word = λ k. o.word (third (ends_line a) (is_spaced a b) (is_open a) (is_stop b) (open_apart a b) e f k);
}

behind_blank : (a : Shape) (b : ℕ) (r : List ℕ) → is_second b ≡ false → is_word_byte b ≡ false → Stops a (b ∷ r)
behind_blank a b r h k = record { mark = h; word = λ _. k }

pub ended : (a : Shape) → ends_line a ≡ true → line_end a ≡ codes "\n"
ended a e = rw e refl

pub not_ended : (a : Shape) → ends_line a ≡ false → line_end a ≡ []
not_ended a e = rw e refl

pub spaced : (page : Page) (b : Shape) → ends_line page.last ≡ false → is_spaced page.last b ≡ true → gap page b ≡ codes " "
spaced page b e k = rw (e, k) refl

pub not_spaced : (page : Page) (b : Shape) → ends_line page.last ≡ false → is_spaced page.last b ≡ false → gap page b ≡ []
not_spaced page b e k = rw (e, k) refl

pub begun : (page : Page) (b : Shape) → ends_line page.last ≡ true → gap page b ≡ margin_before page.margin b
begun page b e = rw e refl

module _ (page : Page) (p : Piece) where
  behind_more : (ps : List Piece) (vs : List Token) → Mean ps vs → apart (is_tight p.shape) ps ≡ true → ends_line p.shape ≡ false → Stops p.shape (laid (put page p) ps)
  behind_more [] vs m h e = record { mark = refl; word = λ _. refl }
  behind_more (q ∷ qs) vs (us, ws, same, reads, more) h e =
      let rest : List ℕ = q.bytes ++ (line_end q.shape ++ laid (put (put page p) q) qs) in
      let fits = (and_parts (not (is_tight p.shape && is_operator q.shape)) (apart (is_tight q.shape) qs) h).0 in
      ⊎_elim
      (λ (k : is_spaced p.shape q.shape ≡ true).
      subst (λ (x : List ℕ). Stops p.shape (x ++ rest)) (sym (spaced (put page p) q.shape e k)) (behind_blank p.shape 32 rest refl refl))
      (λ (k : is_spaced p.shape q.shape ≡ false).
      subst (λ (x : List ℕ). Stops p.shape (x ++ rest)) (sym (not_spaced (put page p) q.shape e k)) (neighbour p.shape q.shape rest e k fits (reads.opens _)))
      (cases_Bool (is_spaced p.shape q.shape))

  behind : (ps : List Piece) (vs : List Token) → Mean ps vs → apart (is_tight p.shape) ps ≡ true → Stops p.shape (line_end p.shape ++ laid (put page p) ps)
  behind ps vs m h =
      ⊎_elim
      (λ (e : ends_line p.shape ≡ true). subst (λ (x : List ℕ). Stops p.shape (x ++ laid (put page p) ps)) (sym (ended p.shape e)) (behind_blank p.shape 10 (laid (put page p) ps) refl refl))
      (λ (e : ends_line p.shape ≡ false). subst (λ (x : List ℕ). Stops p.shape (x ++ laid (put page p) ps)) (sym (not_ended p.shape e)) (behind_more ps vs m h e))
      (cases_Bool (ends_line p.shape))

-- blanks in front
abbrev are_blanks : List ℕ → Type 0
are_blanks xs = list_all (λ b. b == 32) xs ≡ true

over_blanks : (xs r : List ℕ) (ts : List Token) → are_blanks xs → ReadsAs r ts → ReadsAs (xs ++ r) ts
over_blanks [] r ts h more = more
over_blanks (b ∷ xs) r ts h more =
    let both = and_parts (b == 32) (list_all (λ b. b == 32) xs) h in
    let is : 32 ≡ b = sym (eqb-true b 32 both.0) in
    subst (λ (x : ℕ). ReadsAs (x ∷ xs ++ r) ts) is (reads_blank 32 (xs ++ r) ts refl (over_blanks xs r ts both.1 more))

over_end : (a : Shape) (r : List ℕ) (ts : List Token) → ReadsAs r ts → ReadsAs (line_end a ++ r) ts
over_end a r ts more =
    ⊎_elim
    (λ (e : ends_line a ≡ true). subst (λ (x : List ℕ). ReadsAs (x ++ r) ts) (sym (ended a e)) (reads_blank 10 r ts refl more))
    (λ (e : ends_line a ≡ false). subst (λ (x : List ℕ). ReadsAs (x ++ r) ts) (sym (not_ended a e)) more)
    (cases_Bool (ends_line a))

taken_blanks : (n : ℕ) (xs : List ℕ) → are_blanks xs → are_blanks (take n xs)
taken_blanks zero xs h = refl
taken_blanks (suc n) [] h = refl
taken_blanks (suc n) (b ∷ xs) h = let both = and_parts (b == 32) (list_all (λ b. b == 32) xs) h in rw both.0 (taken_blanks n xs both.1)

two_more : (xs : List ℕ) → are_blanks xs → are_blanks (xs ++ codes "  ")
two_more [] h = refl
two_more (b ∷ xs) h = let both = and_parts (b == 32) (list_all (λ b. b == 32) xs) h in rw both.0 (two_more xs both.1)

before_blanks : (m : List ℕ) (a : Shape) → are_blanks m → are_blanks (margin_before m a)
before_blanks m shape.RightBrace h = taken_blanks (length m - 2) m h
before_blanks m _ h = h

after_blanks : (m : List ℕ) (a : Shape) → are_blanks m → are_blanks (margin_after m a)
after_blanks m shape.LeftBrace h = two_more m h
after_blanks m shape.RightBrace h = taken_blanks (length m - 2) m h
after_blanks m _ h = h

over_gap : (page : Page) (a : Shape) (r : List ℕ) (ts : List Token) → are_blanks page.margin → ReadsAs r ts → ReadsAs (gap page a ++ r) ts
over_gap page a r ts m more =
    ⊎_elim
    (λ (e : ends_line page.last ≡ true). subst (λ (x : List ℕ). ReadsAs (x ++ r) ts) (sym (begun page a e)) (over_blanks (margin_before page.margin a) r ts (before_blanks page.margin a m) more))
    (λ (e : ends_line page.last ≡ false).
    ⊎_elim
    (λ (k : is_spaced page.last a ≡ true). subst (λ (x : List ℕ). ReadsAs (x ++ r) ts) (sym (spaced page a e k)) (reads_blank 32 r ts refl more))
    (λ (k : is_spaced page.last a ≡ false). subst (λ (x : List ℕ). ReadsAs (x ++ r) ts) (sym (not_spaced page a e k)) more)
    (cases_Bool (is_spaced page.last a)))
    (cases_Bool (ends_line page.last))

-- the tokens of two parts, as a text is cut into them
cut_both : (us vs : List Token) → map as_cut (us ++ vs) ≡ map as_cut us ++ map as_cut vs
cut_both [] vs = refl
cut_both (u ∷ us) vs = ap (λ (x : List Token). as_cut u ∷ x) (cut_both us vs)

reads_laid : (page : Page) (ps : List Piece) (ts : List Token) (tight : Bool) → are_blanks page.margin → Mean ps ts → apart tight ps ≡ true → ReadsAs (laid page ps) (map as_cut ts)
reads_laid page [] ts tight m e h = subst (λ (x : List Token). ReadsAs [] (map as_cut x)) (sym e) reads_nothing
reads_laid page (p ∷ ps) ts tight m (us, vs, same, reads, more) h =
    let next : apart (is_tight p.shape) ps ≡ true = (and_parts (not (tight && is_operator p.shape)) (apart (is_tight p.shape) ps) h).1 in
    let rest : List ℕ = line_end p.shape ++ laid (put page p) ps in
    let read : ReadsAs rest (map as_cut vs) = over_end p.shape (laid (put page p) ps) (map as_cut vs) (reads_laid (put page p) ps vs (is_tight p.shape) (after_blanks page.margin p.shape m) more next) in
    over_gap page p.shape (p.bytes ++ rest) (map as_cut ts) m
    (subst (ReadsAs (p.bytes ++ rest)) (sym (ap (map as_cut) same ∙ cut_both us vs)) (reads.reads rest (map as_cut vs) (behind page p ps vs more next) read))

-- the layout of pieces is cut into the tokens that they read as
pub layout_cut : (ps : List Piece) (ts : List Token) → Mean ps ts → apart false ps ≡ true → (ls : List Lexeme) × (map (λ l. l.token) ls ≡ map as_cut ts) × Cut (layout ps) ls
layout_cut ps ts m h =
    let read : ReadsAs (laid blank ps) (map as_cut ts) = reads_laid blank ps ts false refl m h in
    read (layout ps) 0 (omega arith) (laid_is blank ps)
