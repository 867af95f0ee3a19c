use Rattle.run_input.proofs.Apart.{not_broken, not_unread, not_ruled}
use Rattle.run_input.proofs.Refusals.{one_of}
use Rattle.run_input.proofs.laws.one_cause.Goals as goal

pub returns-clause-some : goal.returns-clause-some
returns-clause-some c = one_of

pub returns-clause-accepted : goal.returns-clause-accepted
returns-clause-accepted c = not_broken c.one_source.ensures

pub returns-clause-unread : goal.returns-clause-unread
returns-clause-unread c = not_unread

pub returns-clause-ruled : goal.returns-clause-ruled
returns-clause-ruled c = not_ruled c.one_source.ensures
