use Rattle.ready_set.proofs.Least.{least, none}
use Rattle.ready_set.proofs.laws.least_of_a_set.Goals as goal

pub returns-clause-least : goal.returns-clause-least
returns-clause-least c = least

pub returns-clause-none : goal.returns-clause-none
returns-clause-none c = none
