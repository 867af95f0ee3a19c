-- Printed lists, and what may be written or not.
use Rattle.std.proofs.Common.{◌≡◌, ℕ, Bool, true, false, List, [], ◌∷◌, Option, Some, None, refl, ap}
use Rattle.std.specs.Prelude.{map, option_map}
use Rattle.model_print.specs.ModelTree.declared.vocabulary.Word.{Word}
use Rattle.model_print.specs.ModelTree.declared.vocabulary.Symbol.TheVariants as s
use Rattle.model_print.specs.ModelTree.Leaves.{is_name}
use Rattle.model_lexer.specs.Tokens.{name, word, symbol}
use Rattle.model_lexer.specs.Rules.{Rule, ◌⨾◌, Takes, Each, Separated, Maybe, Written}
use Rattle.model_print.specs.Layout.{Piece}
use Rattle.model_print.specs.Pieces as piece
use Rattle.laws_texts.proofs.Pieces.{name_piece, word_piece, comma_piece}
use Rattle.laws_texts.proofs.Spelled.{Spelled, both, as_one, loose, led, one, of_nothing}

-- a name, and a word
pub name_spelled : (firm : Bool) (x : List ℕ) → is_name x ≡ true → Spelled firm (λ (y : Unit {0}). Takes (name x)) (λ (y : Unit {0}). Unit {0}) (piece.name x ∷ [])
name_spelled true x h = one true (piece.name x) (name x) (name_piece x h) refl refl
name_spelled false x h = one false (piece.name x) (name x) (name_piece x h) refl refl

-- a word where it is written
pub flag_spelled : (x : Word) (b : Bool) → Spelled false (λ (y : Unit {0}). Written (word x) b) (λ (y : Unit {0}). Unit {0}) (piece.flag x b)
flag_spelled x true = one false (piece.word x) (word x) (word_piece x) refl refl
flag_spelled x false = of_nothing

-- what has no line of its own, where it is written
pub maybe_fixed : {A : Type 0} (R : A → Rule) (f : A → List Piece) (x : Option A) → ((a : A) → x ≡ Some a → Spelled false (λ (y : Unit {0}). R a) (λ (y : Unit {0}). Unit {0}) (f a))
    → Spelled false (λ (y : Unit {0}). Maybe R x) (λ (y : Unit {0}). Unit {0}) (piece.maybe f x)
maybe_fixed R f None g = of_nothing
maybe_fixed R f (Some a) g = g a refl

module _ {A : Type 0} (un : A → A) (R : A → Rule) (f : A → List Piece) where
  -- something that is the same without its lines
  abbrev pub Like : A → A → Type 0
  Like x y = un y ≡ un x

  -- what is written, or nothing
  pub maybe_spelled : (x : Option A) → ((a : A) → x ≡ Some a → Spelled false R (Like a) (f a)) → Spelled false (λ (y : Option A). Maybe R y) (λ (y : Option A). option_map un y ≡ option_map un x) (piece.maybe f x)
  maybe_spelled None g = as_one (λ y. None) (λ y s. refl) (λ y ts rest d. d) of_nothing
  maybe_spelled (Some a) g = as_one (λ y. Some y) (λ y s. ap Some s) (λ y ts rest d. d) (g a refl)

  -- each of a list
  abbrev pub All : List A → Type 0
  All [] = Unit {0}
  All (x ∷ xs) = Spelled true R (Like x) (f x) × All xs

  pub each_spelled : (xs : List A) → All xs → Spelled false (λ (ys : List A). Each R ys) (λ (ys : List A). map un ys ≡ map un xs) (piece.each f xs)
  each_spelled [] all = as_one (λ y. []) (λ y s. refl) (λ y ts rest d. d) of_nothing
  each_spelled (x ∷ xs) all = as_one (λ y. y.0 ∷ y.1) (λ y s. rw (s.0, s.1) refl) (λ y ts rest d. d) (both (loose all.0) (each_spelled xs all.1))

  -- each behind a comma
  pub more_spelled : (xs : List A) → All xs
      → Spelled false (λ (ys : List A). Each (λ y. Takes (symbol s.Comma) ⨾ R y) ys) (λ (ys : List A). map un ys ≡ map un xs) (piece.each (λ x. piece.comma ∷ f x) xs)
  more_spelled [] all = as_one (λ y. []) (λ y s. refl) (λ y ts rest d. d) of_nothing
  more_spelled (x ∷ xs) all =
      as_one (λ y. y.0 ∷ y.1) (λ y s. rw (s.0, s.1) refl) (λ y ts rest d. d)
      (both (led false piece.comma (symbol s.Comma) comma_piece refl (loose all.0)) (more_spelled xs all.1))

  -- one and others behind commas
  pub some_spelled : (x : A) (xs : List A) → All (x ∷ xs)
      → Spelled true (λ (y : A × List A). Separated (symbol s.Comma) R (y.0 ∷ y.1)) (λ (y : A × List A). map un (y.0 ∷ y.1) ≡ map un (x ∷ xs)) (piece.separated f (x ∷ xs))
  some_spelled x xs all = as_one (λ y. y) (λ y s. rw (s.0, s.1) refl) (λ y ts rest d. d) (both all.0 (more_spelled xs all.1))
