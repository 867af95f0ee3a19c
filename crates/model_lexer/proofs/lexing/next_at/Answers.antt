use Rattle.std.proofs.Common.{◌∙◌, sym, ap}
use Rattle.model_lexer.specs.Meanings.{meaning}
use Rattle.model_lexer.proofs.Turns.{found_is, nothing_found, past_its_limit}
use Rattle.model_lexer.proofs.lexing.next_at.Goals as goal

pub returns-in_default : goal.returns-in_default
returns-in_default c = nothing_found c.args.bytes.now (sym c.piece_at.ensures ∙ c.in_default.is)

pub returns-then-is_passed : goal.returns-then-is_passed
returns-then-is_passed c = (c.in-Some.piece.form, found_is c.args.bytes.now c.in-Some.piece (sym c.piece_at.ensures ∙ c.in-Some.is), sym c.if-is_passed.ensures)

pub returns-in-Some-meaning : goal.returns-in-Some-meaning
returns-in-Some-meaning c =
    (c.in-Some.piece.form, found_is c.args.bytes.now c.in-Some.piece (sym c.piece_at.ensures ∙ c.in-Some.is), ap (meaning c.in-Some.piece.form) (sym c.front.ensures) ∙ sym c.in-Some-meaning.ensures)

pub returns-in-None : goal.returns-in-None
returns-in-None c =
    past_its_limit c.args.bytes.now c.in-Some.piece (found_is c.args.bytes.now c.in-Some.piece (sym c.piece_at.ensures ∙ c.in-Some.is)) (sym c.if-is_passed.ensures) (ap (meaning c.in-Some.piece.form) (sym c.front.ensures) ∙ sym c.in-None.ensures)
