use Rattle.std.proofs.Common.{arith}
use Rattle.payload_pool.proofs.TransferLemmas.{address_inside}
use Rattle.payload_pool.proofs.transfer.place_of.Goals as goal

pub overflow_add-result : goal.overflow_add-result
overflow_add-result c = omega (arith, (address_inside c.args.p.now c.args.size c.args.i c.requires.fits c.requires.within).0)

pub returns-clause-inside : goal.returns-clause-inside
returns-clause-inside c = (address_inside c.args.p.now c.args.size c.args.i c.requires.fits c.requires.within).1
