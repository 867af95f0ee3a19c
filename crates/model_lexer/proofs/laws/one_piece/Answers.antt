use Rattle.model_lexer.proofs.Cuts.{one_piece}
use Rattle.model_lexer.proofs.laws.one_piece.Goals as goal

pub returns : goal.returns
returns c = one_piece
