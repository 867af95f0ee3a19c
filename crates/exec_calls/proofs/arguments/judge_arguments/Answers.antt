use Rattle.std.proofs.Common.{◌∙◌}
use Rattle.exec_data.specs.KernelView.Standings.{next_here}
use Rattle.exec_calls.proofs.Going.{judged_next, judged_stops, judged_all}
use Rattle.exec_calls.proofs.arguments.judge_arguments.Goals as goal

pub loop-argument-preserved : goal.loop-argument-preserved
loop-argument-preserved c = λ ls d i h there.
    judged_next c.args.arguments.now c.loop-argument.argument-index (next_here d c.args.p i) ls c.argument-item.result c.loop-argument-test.true c.argument-item.is c.in-Ok.v (c.in-Ok.ensures d i h there)
    ∙ c.loop-argument.invariant ls d i h there

pub returns-in-Err : goal.returns-in-Err
returns-in-Err c = λ ls d i h there.
    judged_stops c.args.arguments.now c.loop-argument.argument-index (next_here d c.args.p i) ls c.argument-item.result c.loop-argument-test.true c.argument-item.is c.in-Err.fault (c.in-Err.ensures d i h there)
    ∙ c.loop-argument.invariant ls d i h there

pub returns : goal.returns
returns c = λ ls d i h there. judged_all c.args.arguments.now c.loop-argument.argument-index (next_here d c.args.p i) ls c.loop-argument-test.false ∙ c.loop-argument.invariant ls d i h there
