use Rattle.model_lexer.proofs.CutLaws.{has_piece}
use Rattle.model_lexer.proofs.laws.longest_piece.Goals as goal

pub returns : goal.returns
returns c = has_piece
