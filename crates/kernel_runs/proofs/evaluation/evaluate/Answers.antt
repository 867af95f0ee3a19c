use Rattle.kernel_runs.specs.Made.{whole_of}
use Rattle.kernel_runs.proofs.Evaluated.{top_asks}
use Rattle.kernel_runs.proofs.evaluation.evaluate.Goals as goal

pub returns-in-Some-clause-asks : goal.returns-in-Some-clause-asks
returns-in-Some-clause-asks g c = top_asks c.args.k.now c.step_of_top.new.k c.in-Some.p c.in-Some.ensures.some g.C.Chooser.picks g.C.Chooser.later c.args.chooser.now (whole_of c.step_of_top.result c.step_of_top.new.said)
