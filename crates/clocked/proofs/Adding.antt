-- What adding tokens to an expansion adds, put together.
use Rattle.std.proofs.Common.{◌≡◌, ℕ, zero, suc, ◌+◌, ◌-◌, ◌<◌, List, [], ◌∷◌, ◌++◌, length, get_or, take, Some, ◌∙◌, sym, ap, append_assoc, arith}
use Rattle.std.specs.Prelude.{Result, Ok, Err}
use Rattle.std.proofs.lemmas.List.{map-append}
use Rattle.std.proofs.lemmas.List.{take_more}
use Rattle.model_lexer.specs.ModelTree.declared.faults.ParseStop.{ParseStop}
use Rattle.model_lexer.specs.Tokens.{Token, Tokens}
use Rattle.model_lexer.specs.declared.token.TokenKind.{TokenKind}
use Rattle.model_lexer.specs.Views.{token_of}
use Rattle.clocked.specs.declared.expansion.Placed.{Placed}
use Rattle.clocked.specs.Parts.{one_less}
use Rattle.clocked.specs.Expanded.{put}
use Rattle.clocked.specs.Views.{placed_in, expansion_in, kinds_in, Adds}

pub added : (old new : List Placed) (x : Placed) → new ≡ old ++ x ∷ [] → expansion_in new ≡ expansion_in old ++ expansion_in (x ∷ [])
added old new x e = ap expansion_in e ∙ map-append placed_in old (x ∷ [])

-- tokens, and then others
pub added_both : (old mid new : List Placed) (x y : Tokens) → expansion_in mid ≡ expansion_in old ++ x → expansion_in new ≡ expansion_in mid ++ y → expansion_in new ≡ expansion_in old ++ (x ++ y)
added_both old mid new x y e g = g ∙ ap (λ (z : Tokens). z ++ y) e ∙ append_assoc (expansion_in old) x y

pub adds_then : (r : Result Unit ParseStop) (old mid new : List Placed) (x y : Tokens) → expansion_in mid ≡ expansion_in old ++ x → Adds r mid new y → Adds r old new (x ++ y)
adds_then (Ok u) old mid new x y e g = added_both old mid new x y e g
adds_then (Err s) old mid new x y e g = g

pub adds_as : (r : Result Unit ParseStop) (old new : List Placed) (x y : Tokens) → x ≡ y → Adds r old new x → Adds r old new y
adds_as (Ok u) old new x y e g = g ∙ ap (λ (z : Tokens). expansion_in old ++ z) e
adds_as (Err s) old new x y e g = g

pub put_both : (line : ℕ) (xs ys : List Token) → put line (xs ++ ys) ≡ put line xs ++ put line ys
put_both line xs ys = map-append (λ (t : Token). (t, line)) xs ys

-- one more of the kinds is put in
pub put_more : (old mid new : List Placed) (line : ℕ) (kinds : List TokenKind) (i : ℕ) (k : TokenKind) → i < length kinds
    → expansion_in mid ≡ expansion_in old ++ put line (kinds_in (take i kinds))
    → expansion_in new ≡ expansion_in mid ++ (token_of (get_or kinds i k), line) ∷ []
    → expansion_in new ≡ expansion_in old ++ put line (kinds_in (take (i + 1) kinds))
put_more old mid new line kinds i k lt e g =
    added_both old mid new (put line (kinds_in (take i kinds))) ((token_of (get_or kinds i k), line) ∷ []) e g
    ∙ ap (λ (z : Tokens). expansion_in old ++ z)
    (sym (put_both line (kinds_in (take i kinds)) (token_of (get_or kinds i k) ∷ []))
    ∙ ap (put line) (sym (map-append token_of (take i kinds) (get_or kinds i k ∷ [])) ∙ ap kinds_in (sym (take_more kinds i k lt))))

-- one less of a number that is not 0
pub one_less_some : (k : ℕ) → 0 < k → one_less k ≡ Some (k - 1)
one_less_some zero some = absurd (omega arith)
one_less_some (suc k) some = ap Some (omega arith)
