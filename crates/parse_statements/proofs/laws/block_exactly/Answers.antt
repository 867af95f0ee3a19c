use Rattle.parse_statements.proofs.BlockLaws.{block_ok, block_reads}
use Rattle.parse_statements.proofs.laws.block_exactly.Goals as goal

pub returns : goal.returns
returns c depth body ts rest = (λ h. block_reads depth body ts rest h.0 h.1, λ h. block_ok depth ts rest body h)
