use Rattle.laws_runs.proofs.TermTypes.{term-type, operands-fit}
use Rattle.laws_runs.proofs.terms.typed_terms_have_their_types.Goals as goal

pub returns : goal.returns
returns c = record {
  value = term-type;
  operands = operands-fit;
}
