use Rattle.std.proofs.Common.{◌≡◌, drop}
use Rattle.model_lexer.specs.Languages.{behind_other, in_second}
use Rattle.model_lexer.specs.Laws.{with_lines}
use Rattle.model_lexer.specs.Views.{front_of, lexemes}
use Rattle.model_lexer.proofs.Later.{told}
use Rattle.model_lexer.proofs.languages.in_second.Given as goal

-- the tokens found and those that are left are all of them, as language 2 has them
abbrev pub invariant-loop-token : goal.invariant-loop-token
invariant-loop-token l = told (front_of l.front) l.found (drop l.token-index l.tokens) ≡ in_second behind_other (with_lines (lexemes l.tokens))
