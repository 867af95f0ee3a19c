use Rattle.std.proofs.Common.{arith}
use Rattle.logic_values.proofs.ConversionLemmas.{resized_planes}
use Rattle.logic_values.proofs.planes.Lv.resize.Goals as goal

pub returns-clause-each_digit : goal.returns-clause-each_digit
returns-clause-each_digit c =
    let v = c.args.self in
    rw (c.low_bits.ensures, c.low_bits-2.ensures)
    (resized_planes c.args.width c.args.width v.width v.unknown v.ones (omega arith) v.unknown_fit v.ones_fit)
