use Rattle.logic_values.proofs.ConversionLemmas.{binary_planes}
use Rattle.logic_values.proofs.planes.Lv.of_bits.Goals as goal

pub returns-clause-each_digit : goal.returns-clause-each_digit
returns-clause-each_digit c = rw c.low_bits.ensures (binary_planes c.args.width c.args.bits)
