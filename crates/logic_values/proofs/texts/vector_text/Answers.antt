use Rattle.std.proofs.Common.{arith}
use Rattle.logic_values.specs.Digits.{digits}
use Rattle.logic_values.proofs.TextLemmas.{drop_digits, letters_more}
use Rattle.logic_values.proofs.texts.vector_text.Goals as goal

pub loop-place-init : goal.loop-place-init
loop-place-init c = rw drop_digits c.in_ok-bytes.ensures.items

pub loop-place-preserved : goal.loop-place-preserved
loop-place-preserved c =
    rw (c.in_ok-push.ensures.items, c.loop-place.invariant, c.letter.ensures)
    (letters_more c.loop-place.place (digits c.args.v) c.digit.result (omega arith) c.digit.ensures)
