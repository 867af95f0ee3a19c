-- The tokens of a text of language 2, one by one.
use Rattle.std.proofs.Common.{◌≡◌, ℕ, ◌+◌, ◌<◌, List, [], ◌∷◌, ◌++◌, length, get_or, drop, drop-cons, add-one, append_assoc, refl, sym, ap, ◌∙◌}
use Rattle.std.proofs.lemmas.List.{map-append}
use Rattle.model_lexer.specs.Tokens as grammar
use Rattle.model_lexer.specs.Languages.{Front, behind, later_token, in_second}
use Rattle.model_lexer.specs.declared.token.Token.{Token}
use Rattle.model_lexer.specs.Cut.{Lexeme}
use Rattle.model_lexer.specs.Laws.{with_lines}
use Rattle.model_lexer.specs.Views.{token_of, lexeme_of, lexemes}

-- the tokens found, and behind them those that are left, as language 2 has them
abbrev pub told : Front → List Token → List Token → grammar.Tokens
told f found left = with_lines (lexemes found) ++ in_second f (with_lines (lexemes left))

lines_append : (xs ys : List Token) → with_lines (lexemes (xs ++ ys)) ≡ with_lines (lexemes xs) ++ with_lines (lexemes ys)
lines_append xs ys = ap with_lines (map-append lexeme_of xs ys) ∙ map-append (λ (t : Lexeme). (t.token, t.line)) (lexemes xs) (lexemes ys)

-- the token at a place joins those found
pub one_told : (f : Front) (xs found new : List Token) (k : ℕ) (x y : Token) → k < length xs → x ≡ get_or xs k x → new ≡ found ++ y ∷ [] → token_of y.kind ≡ later_token f (token_of x.kind) → y.line ≡ x.line
    → (whole : grammar.Tokens) → told f found (drop k xs) ≡ whole → told (behind f (token_of x.kind)) new (drop (k + 1) xs) ≡ whole
one_told f xs found new k x y within is more same line whole h =
    let here : drop k xs ≡ x ∷ drop (k + 1) xs = rw (add-one, drop-cons xs k x within, ← is) refl in
    let rest = in_second (behind f (token_of x.kind)) (with_lines (lexemes (drop (k + 1) xs))) in
    let last : with_lines (lexemes (y ∷ [])) ≡ (later_token f (token_of x.kind), x.line) ∷ [] = rw (same, line) refl in
    ap (λ (ts : List Token). with_lines (lexemes ts) ++ rest) more
    ∙ ap (λ (ts : grammar.Tokens). ts ++ rest) (lines_append found (y ∷ []))
    ∙ append_assoc (with_lines (lexemes found)) (with_lines (lexemes (y ∷ []))) rest
    ∙ ap (λ (ts : grammar.Tokens). with_lines (lexemes found) ++ (ts ++ rest)) last
    ∙ ap (told f found) (sym here)
    ∙ h
