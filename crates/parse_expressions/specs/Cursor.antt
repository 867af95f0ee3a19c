-- What contracts see of a cursor: the tokens that are left.
use Rattle.std.specs.Prelude.{List}
use Rattle.model_lexer.specs.Tokens.{Tokens}
use Rattle.model_lexer.specs.declared.token.Token.{Token}
use Rattle.model_lexer.specs.Views.{lexemes}
use Rattle.model_lexer.specs.Laws.{with_lines}

abbrev pub tokens_view : List Token → Tokens
tokens_view xs = with_lines (lexemes xs)
