use Rattle.std.proofs.Common.{◌≡◌, ◌-◌, ◌≤◌, length}
use Rattle.model_lexer.specs.Cut.{line_at, CutUpTo}
use Rattle.model_lexer.specs.Views.{lexemes}
use Rattle.model_lexer.proofs.Turns.{Fits, Only}
use Rattle.model_lexer.proofs.lexing.tokens.Given as goal

-- the text is these tokens, then, exactly where from this place on it is the tokens that go on from them
abbrev pub invariant-loop-at : goal.invariant-loop-at
invariant-loop-at l = record {
  within : l.at ≤ length l.text;
  line : l.line ≡ line_at l.text l.at;
  up_to : CutUpTo l.text 0 l.at (lexemes l.found);
  fits : Fits l.text l.at (lexemes l.found);
  only : Only l.text l.at (lexemes l.found);
}

abbrev pub decreases-loop-at : goal.decreases-loop-at
decreases-loop-at l = length l.text - l.at
