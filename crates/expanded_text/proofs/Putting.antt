-- What is put onto a page, one behind another.
use Rattle.std.proofs.Common.{◌≡◌, ℕ, ◌+◌, ◌<◌, List, [], ◌∷◌, ◌++◌, length, get_or, take, append_assoc, ◌∙◌, refl, sym, ap}
use Rattle.std.proofs.lemmas.List.{map-append, take_more, append-nil}
use Rattle.std.proofs.lemmas.List.{replicate_more}
use Rattle.model_lexer.specs.Tokens.{Token, Tokens}
use Rattle.clocked.specs.declared.expansion.Placed.{Placed}
use Rattle.clocked.specs.Expanded.{line_behind}
use Rattle.clocked.specs.Views.{placed_in, expansion_in, token_written}
use Rattle.expanded_text.specs.Page.{spelled, line_ends, between, token_at, tokens_from}

-- one more end of a line
pub ends_more : (old mid new : List ℕ) (count : ℕ) → mid ≡ old ++ line_ends count → new ≡ mid ++ 10 ∷ [] → new ≡ old ++ line_ends (count + 1)
ends_more old mid new count e g =
    g ∙ ap (λ (x : List ℕ). x ++ 10 ∷ []) e ∙ append_assoc old (line_ends count) (10 ∷ []) ∙ ap (λ (x : List ℕ). old ++ x) (replicate_more count 10)

-- a quote, bytes, and the quote again
pub put_between : (old a b new bytes : List ℕ) (quote : ℕ) → a ≡ old ++ quote ∷ [] → b ≡ a ++ bytes → new ≡ b ++ quote ∷ [] → new ≡ old ++ between quote bytes
put_between old a b new bytes quote p q r =
    r ∙ ap (λ (x : List ℕ). x ++ quote ∷ []) (q ∙ ap (λ (x : List ℕ). x ++ bytes) p)
    ∙ append_assoc (old ++ quote ∷ []) bytes (quote ∷ [])
    ∙ append_assoc old (quote ∷ []) (bytes ++ quote ∷ [])

-- ends of lines, a token, and a blank
pub put_placed : (old a b new : List ℕ) (t : Token) (from line : ℕ) (ends : List ℕ) → a ≡ old ++ ends → b ≡ a ++ spelled t → new ≡ b ++ 32 ∷ [] → new ≡ old ++ (ends ++ (spelled t ++ 32 ∷ []))
put_placed old a b new t from line ends p q r =
    r ∙ ap (λ (x : List ℕ). x ++ 32 ∷ []) (q ∙ ap (λ (x : List ℕ). x ++ spelled t) p)
    ∙ append_assoc (old ++ ends) (spelled t) (32 ∷ [])
    ∙ append_assoc old ends (spelled t ++ 32 ∷ [])

-- one more token

tokens_last : (from : ℕ) (ts : Tokens) (t : Token) (line : ℕ) → tokens_from from (ts ++ (t, line) ∷ []) ≡ tokens_from from ts ++ token_at (line_behind from ts) t line
tokens_last from [] t line = append-nil (token_at from t line)
tokens_last from (x ∷ ts) t line =
    ap (λ (y : List ℕ). token_at from x.0 x.1 ++ y) (tokens_last x.1 ts t line) ∙ sym (append_assoc (token_at from x.0 x.1) (tokens_from x.1 ts) (token_at (line_behind x.1 ts) t line))

line_last : (from : ℕ) (ts : Tokens) (t : Token) (line : ℕ) → line_behind from (ts ++ (t, line) ∷ []) ≡ line
line_last from [] t line = refl
line_last from (x ∷ ts) t line = line_last x.1 ts t line

placed_on : (xs : List Placed) (i : ℕ) (x : Placed) → i < length xs → x ≡ get_or xs i x → expansion_in (take (i + 1) xs) ≡ expansion_in (take i xs) ++ placed_in x ∷ []
placed_on xs i x lt e = ap expansion_in (take_more xs i x lt) ∙ map-append placed_in (take i xs) (get_or xs i x ∷ []) ∙ ap (λ (y : Placed). expansion_in (take i xs) ++ placed_in y ∷ []) (sym e)

pub tokens_more : (xs : List Placed) (i : ℕ) (x : Placed) (mid new : List ℕ) (from : ℕ) → i < length xs → x ≡ get_or xs i x
    → mid ≡ tokens_from 1 (expansion_in (take i xs)) → from ≡ line_behind 1 (expansion_in (take i xs)) → new ≡ mid ++ token_at from (token_written x.written) x.line
    → new ≡ tokens_from 1 (expansion_in (take (i + 1) xs))
tokens_more xs i x mid new from lt e before line now =
    now
    ∙ ap (λ (y : List ℕ). y ++ token_at from (token_written x.written) x.line) before
    ∙ ap (λ (l : ℕ). tokens_from 1 (expansion_in (take i xs)) ++ token_at l (token_written x.written) x.line) line
    ∙ sym (tokens_last 1 (expansion_in (take i xs)) (token_written x.written) x.line)
    ∙ ap (tokens_from 1) (sym (placed_on xs i x lt e))

pub line_more : (xs : List Placed) (i : ℕ) (x : Placed) → i < length xs → x ≡ get_or xs i x → x.line ≡ line_behind 1 (expansion_in (take (i + 1) xs))
line_more xs i x lt e = sym (ap (line_behind 1) (placed_on xs i x lt e) ∙ line_last 1 (expansion_in (take i xs)) (token_written x.written) x.line)
