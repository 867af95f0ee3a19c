use Rattle.transport_phases.proofs.LawfulLemmas.{requests_by_words, responds_by_words}
use Rattle.transport_phases.proofs.OpenLemmas.{open_by_words, blocked_by_words}
use Rattle.transport_phases.proofs.lawful.states_by_words.Goals as goal

pub returns-clause-requests : goal.returns-clause-requests
returns-clause-requests c = requests_by_words

pub returns-clause-responds : goal.returns-clause-responds
returns-clause-responds c = responds_by_words

pub returns-clause-open_call : goal.returns-clause-open_call
returns-clause-open_call c = open_by_words

pub returns-clause-open_blocking : goal.returns-clause-open_blocking
returns-clause-open_blocking c = blocked_by_words
