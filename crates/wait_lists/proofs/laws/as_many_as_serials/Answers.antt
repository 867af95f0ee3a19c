use Rattle.wait_lists.proofs.LawLemmas.{len-row}
use Rattle.wait_lists.proofs.laws.as_many_as_serials.Goals as goal

pub returns : goal.returns
returns c w first n within = len-row first n w.room within
