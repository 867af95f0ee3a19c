use Rattle.logic_values.proofs.IntegerLemmas.{shr_far, int_shr_is}
use Rattle.logic_values.proofs.integers.shr.Goals as goal

pub returns-in-Signed : goal.returns-in-Signed
returns-in-Signed c =
    rw (c.in-Signed.is, ← c.cast_signed.ensures)
    (int_shr_is c.cast_signed.result c.args.n c.min.result c.cast_unsigned.result c.cast_signed.type_inv c.min.ensures c.cast_unsigned.ensures)

pub returns-in-Unsigned-2 : goal.returns-in-Unsigned-2
returns-in-Unsigned-2 c = rw c.in-Unsigned.is (shr_far c.args.a c.args.n c.ranges.a.fits c.if-n-lt64.false)
