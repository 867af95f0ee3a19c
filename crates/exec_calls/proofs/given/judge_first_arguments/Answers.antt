use Rattle.std.proofs.Common.{◌∙◌}
use Rattle.exec_data.specs.KernelView.Standings.{next_here}
use Rattle.exec_calls.proofs.Gathering.{one_judged, one_stops, all_judged}
use Rattle.exec_calls.proofs.given.judge_first_arguments.Goals as goal

pub loop-argument-preserved : goal.loop-argument-preserved
loop-argument-preserved c = λ ls d i h there.
    one_judged (next_here d c.args.p i) ls c.args.arguments.now c.loop-argument.argument-index c.argument-item.result c.loop-argument-test.true c.argument-item.is c.in-Ok.v (c.in-Ok.ensures d i h there)
    ∙ c.loop-argument.invariant ls d i h there

pub returns-in-Err : goal.returns-in-Err
returns-in-Err c = λ ls d i h there.
    one_stops (next_here d c.args.p i) ls c.args.arguments.now c.loop-argument.argument-index c.argument-item.result c.loop-argument-test.true c.argument-item.is c.in-Err.fault (c.in-Err.ensures d i h there)
    ∙ c.loop-argument.invariant ls d i h there

pub returns : goal.returns
returns c = λ ls d i h there. all_judged (next_here d c.args.p i) ls c.args.arguments.now c.loop-argument.argument-index c.loop-argument-test.false ∙ c.loop-argument.invariant ls d i h there
