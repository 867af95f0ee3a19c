use Rattle.payload_pool.proofs.LawLemmas.{written-last, written-others, length-memory, bytes-write}
use Rattle.payload_pool.proofs.laws.write_leaves_the_last_byte.Goals as goal

pub returns : goal.returns
returns c = record { last = written-last; others = written-others; size = length-memory; bytes = bytes-write }
