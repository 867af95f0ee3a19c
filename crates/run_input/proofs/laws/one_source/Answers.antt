use Rattle.run_input.proofs.Apart.{one_read}
use Rattle.run_input.proofs.laws.one_source.Goals as goal

pub returns : goal.returns
returns c = one_read c.one_tree.ensures c.one_reading.ensures c.none_as_it_stands.ensures
