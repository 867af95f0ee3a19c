use Rattle.payload_pool.proofs.LawLemmas.{memory-refused, bytes-refused}
use Rattle.payload_pool.proofs.laws.refused_moves_nothing.Goals as goal

pub returns : goal.returns
returns c = record { memory = memory-refused; bytes = bytes-refused }
