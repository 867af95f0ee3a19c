use Rattle.parse_actions.proofs.TypeLaws.{variable_type_ok, variable_type_reads}
use Rattle.parse_actions.proofs.channels_exactly.variable_type_exactly.Goals as goal

pub returns-clause-read : goal.returns-clause-read
returns-clause-read c = variable_type_reads

pub returns-clause-derived : goal.returns-clause-derived
returns-clause-derived c = λ line x ts rest h. variable_type_ok ts rest (line, x) h
