use Rattle.parse_actions.proofs.TypeLaws.{signal_type_ok, signal_type_reads}
use Rattle.parse_actions.proofs.channels_exactly.signal_type_exactly.Goals as goal

pub returns-clause-read : goal.returns-clause-read
returns-clause-read c = signal_type_reads

pub returns-clause-derived : goal.returns-clause-derived
returns-clause-derived c = λ x ts rest h. signal_type_ok ts rest x h
