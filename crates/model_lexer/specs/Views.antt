-- What contracts see of a text's tokens.
use Rattle.std.specs.Prelude.{◌≡◌, ℕ, List, map, take, Some}
use Rattle.model_tree.specs.LogicValues.Digits.{digits}
use Rattle.model_lexer.specs.Tokens as t
use Rattle.model_lexer.specs.Languages as l
use Rattle.model_lexer.specs.declared.forms.Form.{Form}
use Rattle.model_lexer.specs.declared.token.TokenKind.{TokenKind}
use Rattle.model_lexer.specs.declared.token.TokenKind.TheVariants as kind
use Rattle.model_lexer.specs.declared.token.Token.{Token}
use Rattle.model_lexer.specs.declared.languages.Front.{Front}
use Rattle.model_lexer.specs.declared.languages.Front.TheVariants as front
use Rattle.model_lexer.specs.declared.lexing.Next.{Next}
use Rattle.model_lexer.specs.declared.lexing.Next.TheVariants as next
use Rattle.model_lexer.specs.Meanings.{meaning}
use Rattle.model_lexer.specs.Cut.{IsPiece, IsGap, IsStuck, Lexeme}

abbrev pub token_of : TokenKind → t.Token
token_of (kind.Name bytes) = t.name bytes.now
token_of (kind.Word w) = t.word w
token_of (kind.Num n) = t.number n
token_of (kind.Logic v) = t.logic (digits v)
token_of (kind.Text bytes) = t.quoted bytes.now
token_of (kind.Symbol s) = t.symbol s

-- what stands in front of a token
abbrev pub front_of : Front → l.Front
front_of front.Number = l.behind_number
front_of front.At = l.behind_at
front_of front.Other = l.behind_other

abbrev pub lexeme_of : Token → Lexeme
lexeme_of x = record { token = token_of x.kind; start = x.start; end = x.end; line = x.line }

abbrev pub lexemes : List Token → List Lexeme
lexemes xs = map lexeme_of xs

-- what stands at the front of bytes: a blank or a comment, a token within its limits, or neither
abbrev pub IsNext : List ℕ → Next → Type 0
IsNext bytes (next.Passed n) = IsGap bytes n
IsNext bytes (next.Token n kind) = (f : Form) × IsPiece bytes f n × (meaning f (take n bytes) ≡ Some (token_of kind))
IsNext bytes next.Nothing = IsStuck bytes
