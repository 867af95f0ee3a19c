use Rattle.std.proofs.Common.{arith}
use Rattle.std.specs.Int.{w64}
use Rattle.std.proofs.lemmas.Nat.Bits.{bit_at-trailing_zeros}
use Rattle.timed_queue.proofs.marks.lowest_bit.Goals as goal

pub returns-clause-here : goal.returns-clause-here
returns-clause-here c = let low = bit_at-trailing_zeros w64 c.args.word c.requires (omega arith) in low.1

pub returns-clause-lower : goal.returns-clause-lower
returns-clause-lower c = let low = bit_at-trailing_zeros w64 c.args.word c.requires (omega arith) in low.2
