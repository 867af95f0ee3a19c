use Rattle.vcd_trace.proofs.Texts.{no_bit}
use Rattle.vcd_trace.proofs.values.bit_at.Goals as goal

pub returns-else-place-lt64 : goal.returns-else-place-lt64
returns-else-place-lt64 c = no_bit c.args.bits c.args.place c.ranges.bits.fits c.if-place-lt64.false
