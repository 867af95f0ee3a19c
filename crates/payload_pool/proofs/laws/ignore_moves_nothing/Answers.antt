use Rattle.payload_pool.proofs.LawLemmas.{status-ignore, memory-ignore, bytes-ignore}
use Rattle.payload_pool.proofs.laws.ignore_moves_nothing.Goals as goal

pub returns : goal.returns
returns c = record { status = status-ignore; memory = memory-ignore; bytes = bytes-ignore }
