use Rattle.wait_lists.proofs.LawLemmas.{adds_few}
use Rattle.wait_lists.proofs.laws.as_many_as_wait_for_it.Goals as goal

pub returns : goal.returns
returns c = adds_few
