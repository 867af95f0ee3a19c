use Rattle.model_parser.proofs.ValueLaws.{vector_reads}
use Rattle.model_parser.proofs.values.of_vector.Goals as goal

pub returns : goal.returns
returns c ts = vector_reads c.args.line c.args.value ts
