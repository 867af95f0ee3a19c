use Rattle.payload_pool.proofs.LawLemmas.{place-done, cause-address}
use Rattle.payload_pool.proofs.laws.each_byte_has_a_place.Goals as goal

pub returns : goal.returns
returns c = record { done = place-done; cause = cause-address }
