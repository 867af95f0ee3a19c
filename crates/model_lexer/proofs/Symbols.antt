-- What is found among the symbols.
use Rattle.std.proofs.Common.{◌≡◌, ℕ, Bool, true, false, List, [], ◌∷◌, Some, ⊎_elim}
use Rattle.std.specs.List.{find}
use Rattle.std.specs.Str.{bytes_eq}
use Rattle.std.proofs.lemmas.Bool.{cases_Bool}
use Rattle.std.proofs.lemmas.Slice.Eq.{bytes_eq-Decides}
use Rattle.model_tree.specs.declared.vocabulary.Symbol.{Symbol}
use Rattle.model_tree.specs.declared.vocabulary.TheConstants.{SYMBOLS}
use Rattle.model_tree.specs.Vocabulary.{symbol_text}
use Rattle.model_lexer.specs.Tokens.{symbol_of}

-- what is found passes the test
pub find_passes : {X : Type 0} (test : X → Bool) (xs : List X) (x : X) → find test xs ≡ Some x → test x ≡ true
find_passes test [] x h = cc
find_passes test (y ∷ ys) x h =
    ⊎_elim
    (λ (t : test y ≡ true). let e : y ≡ x = cc (rw t at h) in cc)
    (λ (f : test y ≡ false). find_passes test ys x (rw f at h))
    (cases_Bool (test y))

-- what is found spells the bytes
pub symbol_of_spells : (bytes : List ℕ) (s : Symbol) → symbol_of bytes ≡ Some s → symbol_text s ≡ bytes
unfolding symbol_of
symbol_of_spells bytes s h = (bytes_eq-Decides (symbol_text s) bytes).0 (find_passes (λ v. bytes_eq (symbol_text v) bytes) SYMBOLS s h)
