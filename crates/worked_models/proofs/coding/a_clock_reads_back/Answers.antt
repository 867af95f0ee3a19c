use Rattle.worked_models.proofs.Reading.{clock_reads_back}
use Rattle.worked_models.proofs.coding.a_clock_reads_back.Goals as goal

pub returns-clause-reads : goal.returns-clause-reads
returns-clause-reads c = clock_reads_back
