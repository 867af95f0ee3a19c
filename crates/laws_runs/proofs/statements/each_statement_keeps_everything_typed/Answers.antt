use Rattle.laws_runs.proofs.InTurn.{statement-typed}
use Rattle.laws_runs.proofs.statements.each_statement_keeps_everything_typed.Goals as goal

pub returns : goal.returns
returns c = statement-typed
