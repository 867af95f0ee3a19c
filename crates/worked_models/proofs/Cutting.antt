-- A text is cut into tokens by computing the piece at each place.
use Rattle.std.proofs.Common.{◌≡◌, ℕ, zero, suc, ◌+◌, Bool, true, false, List, [], ◌∷◌, length, take, drop, Option, Some, None, refl, subst}
use Rattle.std.specs.Prelude.{◌==◌}
use Rattle.std.proofs.lemmas.Bool.{eqb-true}
use Rattle.std.proofs.lemmas.Option.{same_Some}
use Rattle.model_lexer.specs.Tokens.{Token}
use Rattle.model_lexer.specs.declared.forms.Piece.{Piece}
use Rattle.model_lexer.specs.Forms.{is_passed}
use Rattle.model_lexer.specs.Fronts.{piece_at}
use Rattle.model_lexer.specs.Meanings.{meaning}
use Rattle.model_lexer.specs.Cut.{Lexeme, CutFrom}
use Rattle.model_lexer.proofs.Cuts.{lexeme, gap_in, token_in}
use Rattle.model_lexer.proofs.Turns.{found_is}

abbrev pub end_at : Bool → Option (List Lexeme)
end_at true = Some []
end_at false = None

abbrev pub behind : Lexeme → Option (List Lexeme) → Option (List Lexeme)
behind t None = None
behind t (Some ts) = Some (t ∷ ts)

-- a blank is passed, and a token is taken
abbrev pub cut_piece : List ℕ → ℕ → (ℕ → Option (List Lexeme)) → Piece → Bool → Option Token → Option (List Lexeme)
cut_piece text at go p true m = go (at + p.len)
cut_piece text at go p false None = None
cut_piece text at go p false (Some t) = behind (lexeme text at p.len t) (go (at + p.len))

abbrev pub cut_on : List ℕ → ℕ → (ℕ → Option (List Lexeme)) → Option Piece → Option (List Lexeme)
cut_on text at go None = end_at (at == length text)
cut_on text at go (Some p) = cut_piece text at go p (is_passed p.form) (meaning p.form (take p.len (drop at text)))

-- the tokens of a text from a place on, where it has at most so many pieces there
unfoldable pub cut_by : ℕ → List ℕ → ℕ → Option (List Lexeme)
cut_by zero text at = end_at (at == length text)
cut_by (suc n) text at = cut_on text at (cut_by n text) (piece_at (drop at text))

-- they are a cut

end_cut : (text : List ℕ) (at : ℕ) (ts : List Lexeme) (b : Bool) → (at == length text) ≡ b → end_at b ≡ Some ts → CutFrom text at ts
end_cut text at ts true h e = subst (λ (xs : List Lexeme). CutFrom text at xs) (same_Some [] ts e) ([], eqb-true at (length text) h)
end_cut text at ts false h e = cc

module _ (text : List ℕ) (at : ℕ) (p : Piece) (found : piece_at (drop at text) ≡ Some p) where
  behind_cut : (ts : List Lexeme) (t : Token) → meaning p.form (take p.len (drop at text)) ≡ Some t
      → (o : Option (List Lexeme)) → ((us : List Lexeme) → o ≡ Some us → CutFrom text (at + p.len) us)
      → behind (lexeme text at p.len t) o ≡ Some ts → CutFrom text at ts
  behind_cut ts t k None more e = cc
  behind_cut ts t k (Some us) more e =
      subst (λ (xs : List Lexeme). CutFrom text at xs) (same_Some (lexeme text at p.len t ∷ us) ts e) (token_in text at p.len p.form t us (found_is (drop at text) p found) k (more us refl))

  piece_cut : (go : ℕ → Option (List Lexeme)) (ts : List Lexeme) → ((next : ℕ) (us : List Lexeme) → go next ≡ Some us → CutFrom text next us)
      → (b : Bool) → is_passed p.form ≡ b → (m : Option Token) → meaning p.form (take p.len (drop at text)) ≡ m → cut_piece text at go p b m ≡ Some ts → CutFrom text at ts
  piece_cut go ts more true h m k e = gap_in text at p.len ts (p.form, found_is (drop at text) p found, h) (more (at + p.len) ts e)
  piece_cut go ts more false h None k e = cc
  piece_cut go ts more false h (Some t) k e = behind_cut ts t k (go (at + p.len)) (more (at + p.len)) e

on_cut : (text : List ℕ) (at : ℕ) (go : ℕ → Option (List Lexeme)) (ts : List Lexeme) → ((next : ℕ) (us : List Lexeme) → go next ≡ Some us → CutFrom text next us)
    → (o : Option Piece) → piece_at (drop at text) ≡ o → cut_on text at go o ≡ Some ts → CutFrom text at ts
on_cut text at go ts more None found e = end_cut text at ts (at == length text) refl e
on_cut text at go ts more (Some p) found e = piece_cut text at p found go ts more (is_passed p.form) refl (meaning p.form (take p.len (drop at text))) refl e

pub cut_ok : (n : ℕ) (text : List ℕ) (at : ℕ) (ts : List Lexeme) → cut_by n text at ≡ Some ts → CutFrom text at ts
unfolding cut_by
cut_ok zero text at ts e = end_cut text at ts (at == length text) refl e
cut_ok (suc n) text at ts e = on_cut text at (cut_by n text) ts (cut_ok n text) (piece_at (drop at text)) refl e
