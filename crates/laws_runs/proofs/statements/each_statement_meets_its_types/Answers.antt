use Rattle.laws_runs.proofs.InTurn.{typed-fits, meets-types, next-typed}
use Rattle.laws_runs.proofs.statements.each_statement_meets_its_types.Goals as goal

pub returns : goal.returns
returns x = record {
  next = λ c p i sound typed at. next-typed c p i at sound (typed-fits c typed);
  operands = λ c p i sound typed at. meets-types c p i at sound (typed-fits c typed);
}
