use Rattle.std.proofs.Common.{◌≡◌, Ok, sym, ◌∙◌}
use Rattle.exec_data.specs.KernelView.Standings.{next_here}
use Rattle.exec_calls.proofs.Going.{value_joins, values_all, values_given}
use Rattle.exec_calls.proofs.arguments.add_values.Goals as goal

pub loop-i-init : goal.loop-i-init
loop-i-init c = λ d i h there vs is. values_given c.args.values.now.items vs _ c.requires.empty is

pub loop-i-preserved : goal.loop-i-preserved
loop-i-preserved c = λ d i h there vs is.
    value_joins c.args.arguments.now c.loop-i.i (next_here d c.args.p i) c.args.locals.now c.index-arguments-i.result c.loop-i-test.true c.index-arguments-i.is c.loop-i.values.items vs (c.loop-i.invariant d i h there vs is)
    c.argument_value.result c.add_value.new.values.items (c.argument_value.ensures d i h there) c.in-Ok.ensures

pub returns : goal.returns
returns c = λ d i h there vs is.
    let all : Ok c.loop-i.values.items ≡ Ok vs = sym (values_all c.args.arguments.now c.loop-i.i c.loop-i-test.false (next_here d c.args.p i) c.args.locals.now c.loop-i.values.items) ∙ c.loop-i.invariant d i h there vs is in
    cc
