use Rattle.payload_pool.proofs.LawLemmas.{read-enabled, read-others, length-bytes, memory-read}
use Rattle.payload_pool.proofs.laws.read_takes_the_byte_at_its_address.Goals as goal

pub returns : goal.returns
returns c = record { enabled = read-enabled; others = read-others; size = length-bytes; memory = memory-read }
