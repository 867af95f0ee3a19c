use Rattle.std.proofs.Common.{◌≡◌, take}
use Rattle.result_texts.specs.Lines.{last_time}
use Rattle.result_texts.proofs.order.last_time.Given as goal

abbrev pub invariant-loop-row : goal.invariant-loop-row
invariant-loop-row l = l.last ≡ last_time (take l.row-index l.rows)
