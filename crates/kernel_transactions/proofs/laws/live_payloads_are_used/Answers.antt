use Rattle.kernel_transactions.proofs.Judgements.{used_as, live_found, complete_read}
use Rattle.kernel_transactions.proofs.laws.live_payloads_are_used.Goals as goal

pub returns-clause-used : goal.returns-clause-used
returns-clause-used c = used_as

pub returns-clause-found : goal.returns-clause-found
returns-clause-found c = live_found

pub returns-clause-complete : goal.returns-clause-complete
returns-clause-complete c = complete_read
