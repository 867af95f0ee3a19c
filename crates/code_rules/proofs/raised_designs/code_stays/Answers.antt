use Rattle.code_rules.proofs.Read.{code_still}
use Rattle.code_rules.proofs.raised_designs.code_stays.Goals as goal

pub returns : goal.returns
returns c = λ m before after d read. code_still m before after d read
