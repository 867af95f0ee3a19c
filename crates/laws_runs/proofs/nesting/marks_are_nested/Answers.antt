use Rattle.laws_runs.proofs.MarkedRuns.{nested-after, numbers-after}
use Rattle.laws_runs.proofs.nesting.marks_are_nested.Goals as goal

pub returns-clause-nested : goal.returns-clause-nested
returns-clause-nested c = nested-after

pub returns-clause-numbers : goal.returns-clause-numbers
returns-clause-numbers c = numbers-after
