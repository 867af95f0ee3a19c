use Rattle.parse_actions.proofs.ArgumentLaws.{arguments_ok, arguments_reads}
use Rattle.parse_actions.proofs.channels_exactly.arguments_exactly.Goals as goal

pub returns-clause-read : goal.returns-clause-read
returns-clause-read c = arguments_reads

pub returns-clause-derived : goal.returns-clause-derived
returns-clause-derived c = λ brackets es ts rest h. arguments_ok brackets ts rest es h
