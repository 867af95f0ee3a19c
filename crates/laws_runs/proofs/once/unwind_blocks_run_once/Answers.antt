use Rattle.laws_runs.proofs.Callers.{run-before, run-after, run-killed, all-open}
use Rattle.laws_runs.proofs.once.unwind_blocks_run_once.Goals as goal

pub returns-clause-before : goal.returns-clause-before
returns-clause-before c = run-before

pub returns-clause-after : goal.returns-clause-after
returns-clause-after c = run-after

pub returns-clause-killed : goal.returns-clause-killed
returns-clause-killed c = run-killed

pub returns-clause-all : goal.returns-clause-all
returns-clause-all c = all-open
