use Rattle.logic_values.proofs.ConversionLemmas.{all_zero, all_one, all_z, all_x}
use Rattle.logic_values.proofs.planes.Lv.filled.Goals as goal
use Rattle.logic_values.proofs.planes.Lv.filled.Goals.{in-Zero, in-One, in-Z, in-X}

pub returns-clause-each_digit : goal.returns-clause-each_digit
returns-clause-each_digit c =
    let width = c.args.width in
    let mask = c.low_mask-mask in
    elim c.match-d.branch [
      | in-Zero w ↦ rw (w.result-is, w.in-Zero.is) (all_zero width)
      | in-One w ↦ rw (w.result-is, w.in-One.is) (all_one width mask.result mask.ensures)
      | in-Z w ↦ rw (w.result-is, w.in-Z.is) (all_z width mask.result mask.ensures)
      | in-X w ↦ rw (w.result-is, w.in-X.is) (all_x width mask.result mask.ensures)
    ]
