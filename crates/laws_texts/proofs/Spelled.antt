-- Printed tokens that a rule takes, and how they are put together.
use Rattle.std.proofs.Common.{◌≡◌, ℕ, ◌≤◌, Bool, true, false, ◌&&◌, List, [], ◌∷◌, ◌++◌, length, append_assoc, ◌∙◌, refl, sym, ap, subst, arith}
use Rattle.std.specs.Prelude.{not, map}
use Rattle.std.proofs.lemmas.Bool.{and_parts, and_from}
use Rattle.std.proofs.lemmas.List.{length-append, length-map}
use Rattle.model_print.specs.ModelTree.declared.vocabulary.Word.{Word}
use Rattle.model_print.specs.ModelTree.declared.vocabulary.Symbol.TheVariants as s
use Rattle.model_print.specs.ModelTree.Limits.{token_limit, is_number}
use Rattle.model_lexer.specs.Tokens.{Token, Tokens, number, word, symbol}
use Rattle.model_lexer.specs.Rules.{Rule, ◌⨾◌, At, Takes, Nothing}
use Rattle.model_lexer.specs.Expressions.{Short}
use Rattle.model_print.specs.Layout.{Piece}
use Rattle.model_print.specs.Pieces.{wide}
use Rattle.laws_texts.proofs.Pieces.{is_operator, is_tight, Reads, wide_piece}
use Rattle.laws_texts.proofs.Laid.{Mean, apart}

-- whether pieces end with one behind which what follows has no blank
abbrev pub tight_after : Bool → List Piece → Bool
tight_after tight [] = tight
tight_after tight (p ∷ ps) = tight_after (is_tight p.shape) ps

abbrev pub meanings : Tokens → List Token
meanings ts = map (λ t. t.0) ts

-- The pieces read as tokens that the rule takes as something that is the same. Where they are firm, they may
-- stand without a blank behind what is in front.
pub record Spelled {A : Type 0} (firm : Bool) (R : A → Rule) (S : A → Type 0) (xs : List Piece) : Type 0 where
  pub tokens : List Token
  pub means : Mean xs tokens
  pub fits : apart firm xs ≡ true
  pub ends : tight_after firm xs ≡ false
  pub reads : (ts : Tokens) → meanings ts ≡ tokens → (y : A) × S y × ((rest : Tokens) → R y (ts ++ rest) rest)

pub mean_both : (xs ys : List Piece) (ts us : List Token) → Mean xs ts → Mean ys us → Mean (xs ++ ys) (ts ++ us)
mean_both [] ys ts us m n = subst (λ (x : List Token). Mean ys (x ++ us)) (sym m) n
mean_both (x ∷ xs) ys ts us (vs, ws, e, r, m) n = (vs, ws ++ us, ap (λ (z : List Token). z ++ us) e ∙ append_assoc vs ws us, r, mean_both xs ys ws us m n)

pub apart_both : (firm : Bool) (xs ys : List Piece) → apart firm xs ≡ true → tight_after firm xs ≡ false → apart false ys ≡ true → apart firm (xs ++ ys) ≡ true
apart_both firm [] ys h e k = subst (λ (x : Bool). apart x ys ≡ true) (sym e) k
apart_both firm (x ∷ xs) ys h e k =
    let both = and_parts (not (firm && is_operator x.shape)) (apart (is_tight x.shape) xs) h in
    and_from (not (firm && is_operator x.shape)) (apart (is_tight x.shape) (xs ++ ys)) both.0 (apart_both (is_tight x.shape) xs ys both.1 e k)

pub tight_both : (firm : Bool) (xs ys : List Piece) → tight_after firm xs ≡ false → tight_after false ys ≡ false → tight_after firm (xs ++ ys) ≡ false
tight_both firm [] ys e k = subst (λ (x : Bool). tight_after x ys ≡ false) (sym e) k
tight_both firm (x ∷ xs) ys e k = tight_both (is_tight x.shape) xs ys e k

-- tokens of two parts
pub parts : (ts : Tokens) (xs ys : List Token) → meanings ts ≡ xs ++ ys → (us : Tokens) × (vs : Tokens) × (ts ≡ us ++ vs) × (meanings us ≡ xs) × (meanings vs ≡ ys)
parts ts [] ys e = ([], ts, refl, refl, e)
parts [] (x ∷ xs) ys e = cc
parts (t ∷ ts) (x ∷ xs) ys e =
    let one : t.0 ≡ x = cc in
    let rest : meanings ts ≡ xs ++ ys = cc in
    let (us, vs, same, a, b) = parts ts xs ys rest in
    let first : t.0 ∷ meanings us ≡ x ∷ xs = cc in
    (t ∷ us, vs, ap (λ (z : Tokens). t ∷ z) same, first, b)

module _ {A B : Type 0} {firm : Bool} {R : A → Rule} {Q : B → Rule} {S : A → Type 0} {T : B → Type 0} {xs ys : List Piece} where
  -- one part behind another
  abbrev pub both : Spelled firm R S xs → Spelled false Q T ys → Spelled firm (λ (y : A × B). R y.0 ⨾ Q y.1) (λ (y : A × B). S y.0 × T y.1) (xs ++ ys)
  both a b = record {
    tokens = a.tokens ++ b.tokens;
    means = mean_both xs ys a.tokens b.tokens a.means b.means;
    fits = apart_both firm xs ys a.fits a.ends b.fits;
    ends = tight_both firm xs ys a.ends b.ends;
    reads = λ ts e.
        let (us, vs, same, one, two) = parts ts a.tokens b.tokens e in
        let (y, s, f) = a.reads us one in
        let (z, t, g) = b.reads vs two in (
          (y, z),
          (s, t),
          λ rest.
              let whole : ts ++ rest ≡ us ++ (vs ++ rest) = ap (λ (q : Tokens). q ++ rest) same ∙ append_assoc us vs rest in
              (vs ++ rest, subst (λ (q : Tokens). R y q (vs ++ rest)) (sym whole) (f (vs ++ rest)), g rest),
        );
  }

module _ {A B : Type 0} {firm : Bool} {R : A → Rule} {Q : B → Rule} {S : A → Type 0} {T : B → Type 0} {xs : List Piece} where
  -- the same tokens as something else
  abbrev pub as_one : (f : A → B) → ((y : A) → S y → T (f y)) → ((y : A) (ts rest : Tokens) → R y ts rest → Q (f y) ts rest) → Spelled firm R S xs → Spelled firm Q T xs
  as_one f same rule a = record {
    tokens = a.tokens;
    means = a.means;
    fits = a.fits;
    ends = a.ends;
    reads = λ ts e. let (y, s, g) = a.reads ts e in (f y, same y s, λ rest. rule y (ts ++ rest) rest (g rest));
  }

module _ {A : Type 0} {firm : Bool} {R : A → Rule} {S : A → Type 0} {xs : List Piece} where
  -- the same pieces, put together in another way
  abbrev pub moved : {ys : List Piece} → xs ≡ ys → Spelled firm R S xs → Spelled firm R S ys
  moved e a = record {
    tokens = a.tokens;
    means = subst (λ (x : List Piece). Mean x a.tokens) e a.means;
    fits = subst (λ (x : List Piece). apart firm x ≡ true) e a.fits;
    ends = subst (λ (x : List Piece). tight_after firm x ≡ false) e a.ends;
    reads = a.reads;
  }

  -- an expression of at most 256 tokens
  abbrev pub short : (a : Spelled firm R S xs) → length a.tokens ≤ token_limit → Spelled firm (λ y. Short (R y)) S xs
  short a few = record {
    tokens = a.tokens;
    means = a.means;
    fits = a.fits;
    ends = a.ends;
    reads = λ ts e.
        let (y, s, g) = a.reads ts e in
        let size : length ts ≡ length a.tokens = sym (length-map ts (λ t. t.0)) ∙ ap length e in
        (y, s, λ rest. (g rest, omega (arith, length-append ts rest)));
  }

-- what may follow anything may follow what asks for no blank
pub apart_loose : (xs : List Piece) → apart true xs ≡ true → apart false xs ≡ true
apart_loose [] h = refl
apart_loose (x ∷ xs) h = (and_parts (not (is_operator x.shape)) (apart (is_tight x.shape) xs) h).1

pub tight_loose : (xs : List Piece) → tight_after true xs ≡ false → tight_after false xs ≡ false
tight_loose [] h = refl
tight_loose (x ∷ xs) h = h

pub first_token : (t : Token) (us : List Token) (ts : Tokens) → meanings ts ≡ t ∷ us → (line : ℕ) × (rest : Tokens) × (ts ≡ (t, line) ∷ rest) × (meanings rest ≡ us)
first_token t us [] e = cc
first_token t us (x ∷ ts) e =
    let one : x.0 ≡ t = cc in
    let rest : meanings ts ≡ us = cc in
    (x.1, ts, ap (λ (z : Token). (z, x.1) ∷ ts) one, rest)

pub no_token : (ts : Tokens) → meanings ts ≡ [] → ts ≡ []
no_token [] e = refl
no_token (x ∷ ts) e = cc

-- no piece, and no token
pub of_nothing : Spelled false (λ (y : Unit {0}). Nothing) (λ (y : Unit {0}). Unit {0}) []
of_nothing = record {
  tokens = [];
  means = refl;
  fits = refl;
  ends = refl;
  reads = λ ts e. (tt, tt, λ rest. ap (λ (q : Tokens). q ++ rest) (no_token ts e));
}

module _ {A : Type 0} {R : A → Rule} {S : A → Type 0} {xs : List Piece} where
  abbrev pub loose : Spelled true R S xs → Spelled false R S xs
  loose a = record {
    tokens = a.tokens;
    means = a.means;
    fits = apart_loose xs a.fits;
    ends = tight_loose xs a.ends;
    reads = a.reads;
  }

  -- a token in front, on any line
  abbrev pub led : (firm : Bool) (p : Piece) (t : Token) → Reads p (t ∷ []) → not (firm && is_operator p.shape) ≡ true → Spelled (is_tight p.shape) R S xs → Spelled firm (λ y. Takes t ⨾ R y) S (p ∷ xs)
  led firm p t r k a = record {
    tokens = t ∷ a.tokens;
    means = (t ∷ [], a.tokens, refl, r, a.means);
    fits = and_from (not (firm && is_operator p.shape)) (apart (is_tight p.shape) xs) k a.fits;
    ends = a.ends;
    reads = λ ts e.
        let (line, us, same, more) = first_token t a.tokens ts e in
        let (y, s, g) = a.reads us more in
        (y, s, λ rest. (us ++ rest, (line, ap (λ (q : Tokens). q ++ rest) same), g rest));
  }

  -- and on the line that is kept
  abbrev pub led_at : (firm : Bool) (p : Piece) (t : Token) → Reads p (t ∷ []) → not (firm && is_operator p.shape) ≡ true → Spelled (is_tight p.shape) R S xs
      → Spelled firm (λ (y : ℕ × A). At y.0 t ⨾ R y.1) (λ (y : ℕ × A). S y.1) (p ∷ xs)
  led_at firm p t r k a = record {
    tokens = t ∷ a.tokens;
    means = (t ∷ [], a.tokens, refl, r, a.means);
    fits = and_from (not (firm && is_operator p.shape)) (apart (is_tight p.shape) xs) k a.fits;
    ends = a.ends;
    reads = λ ts e.
        let (line, us, same, more) = first_token t a.tokens ts e in
        let (y, s, g) = a.reads us more in
        ((line, y), s, λ rest. (us ++ rest, ap (λ (q : Tokens). q ++ rest) same, g rest));
  }

pub never : (b : Bool) → not (b && false) ≡ true
never true = refl
never false = refl

-- one token
abbrev pub one : (firm : Bool) (p : Piece) (t : Token) → Reads p (t ∷ []) → not (firm && is_operator p.shape) ≡ true → is_tight p.shape ≡ false → Spelled firm (λ (y : Unit {0}). Takes t) (λ (y : Unit {0}). Unit {0}) (p ∷ [])
one firm p t r k e = record {
  tokens = t ∷ [];
  means = (t ∷ [], [], refl, r, refl);
  fits = and_from (not (firm && is_operator p.shape)) true k refl;
  ends = e;
  reads = λ ts e.
      let (line, us, same, more) = first_token t [] ts e in
      let whole : ts ≡ (t, line) ∷ [] = same ∙ ap (λ (q : Tokens). (t, line) ∷ q) (no_token us more) in
      (tt, tt, λ rest. (line, ap (λ (q : Tokens). q ++ rest) whole));
}

abbrev pub one_at : (firm : Bool) (p : Piece) (t : Token) → Reads p (t ∷ []) → not (firm && is_operator p.shape) ≡ true → is_tight p.shape ≡ false → Spelled firm (λ (line : ℕ). At line t) (λ (line : ℕ). Unit {0}) (p ∷ [])
one_at firm p t r k e = record {
  tokens = t ∷ [];
  means = (t ∷ [], [], refl, r, refl);
  fits = and_from (not (firm && is_operator p.shape)) true k refl;
  ends = e;
  reads = λ ts e.
      let (line, us, same, more) = first_token t [] ts e in
      let whole : ts ≡ (t, line) ∷ [] = same ∙ ap (λ (q : Tokens). (t, line) ∷ q) (no_token us more) in
      (line, tt, λ rest. ap (λ (q : Tokens). q ++ rest) whole);
}

module _ {A : Type 0} {firm : Bool} {R : A → Rule} {S : A → Type 0} {xs : List Piece} where
  -- a token behind
  abbrev pub ended_by : (p : Piece) (t : Token) → Reads p (t ∷ []) → is_tight p.shape ≡ false → Spelled firm R S xs → Spelled firm (λ y. R y ⨾ Takes t) S (xs ++ p ∷ [])
  ended_by p t r e a = as_one (λ (y : A × Unit {0}). y.0) (λ y s. s.0) (λ y ts rest d. d) (both a (one false p t r refl e))

-- a type with its width in front
module _ {A : Type 0} {R : A → Rule} {S : A → Type 0} {xs : List Piece} where
  abbrev pub led_wide : (firm : Bool) (x : Word) (n : ℕ) → is_number n ≡ true → Spelled false R S xs
      → Spelled firm (λ (y : ℕ × A). At y.0 (word x) ⨾ Takes (symbol s.Less) ⨾ Takes (number n) ⨾ Takes (symbol s.Greater) ⨾ R y.1) (λ (y : ℕ × A). S y.1) (wide x n ∷ xs)
  led_wide firm x n k a = record {
    tokens = word x ∷ symbol s.Less ∷ number n ∷ symbol s.Greater ∷ a.tokens;
    means = (word x ∷ symbol s.Less ∷ number n ∷ symbol s.Greater ∷ [], a.tokens, refl, wide_piece x n k, a.means);
    fits = and_from (not (firm && false)) (apart false xs) (never firm) a.fits;
    ends = a.ends;
    reads = λ ts e.
        let (line, us, one, more) = first_token (word x) (symbol s.Less ∷ number n ∷ symbol s.Greater ∷ a.tokens) ts e in
        let (la, vs, two, more) = first_token (symbol s.Less) (number n ∷ symbol s.Greater ∷ a.tokens) us more in
        let (lb, ws, three, more) = first_token (number n) (symbol s.Greater ∷ a.tokens) vs more in
        let (lc, zs, four, more) = first_token (symbol s.Greater) a.tokens ws more in
        let (y, same, g) = a.reads zs more in (
          (line, y),
          same,
          λ rest.
              (us ++ rest, ap (λ (q : Tokens). q ++ rest) one, (vs ++ rest, (la, ap (λ (q : Tokens). q ++ rest) two), (ws ++ rest, (lb, ap (λ (q : Tokens). q ++ rest) three), (zs ++ rest, (lc, ap (λ (q : Tokens). q ++ rest) four), g rest)))),
        );
  }

module _ {A B : Type 0} {firm : Bool} {R : A → Rule} {Q : B → Rule} {S : A → Type 0} {T : B → Type 0} {xs : List Piece} where
  -- the same tokens as something else, which what is known of it allows
  abbrev pub as_known : (f : A → B) → ((y : A) → S y → T (f y)) → ((y : A) → S y → (ts rest : Tokens) → R y ts rest → Q (f y) ts rest) → Spelled firm R S xs → Spelled firm Q T xs
  as_known f same rule a = record {
    tokens = a.tokens;
    means = a.means;
    fits = a.fits;
    ends = a.ends;
    reads = λ ts e. let (y, s, g) = a.reads ts e in (f y, same y s, λ rest. rule y s (ts ++ rest) rest (g rest));
  }

-- a type with its width
abbrev pub one_wide : (firm : Bool) (x : Word) (n : ℕ) → is_number n ≡ true → Spelled firm (λ (line : ℕ). At line (word x) ⨾ Takes (symbol s.Less) ⨾ Takes (number n) ⨾ Takes (symbol s.Greater)) (λ (line : ℕ). Unit {0}) (wide x n ∷ [])
one_wide firm x n k =
    as_one (λ (y : ℕ × Unit {0}). y.0) (λ y s. tt)
    (λ y ts rest (m, a, (m1, b, (m2, c, (m3, d, e)))). (m, a, (m1, b, (m2, c, subst (λ (q : Tokens). Takes (symbol s.Greater) m2 q) e d))))
    (led_wide firm x n k of_nothing)
