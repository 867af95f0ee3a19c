use Rattle.std.proofs.Common.{◌++◌, ◌<◌, List, ℕ, sym, ap, ◌∙◌, arith}
use Rattle.vcd_trace.specs.Walks.{tasks_text}
use Rattle.vcd_trace.proofs.Tasks.{walk_step, cost_step}
use Rattle.vcd_trace.proofs.walks.visit.Goals as goal

pub returns-clause-whole : goal.returns-clause-whole
returns-clause-whole c =
    let d = c.args.design.now in
    let some : 0 < c.args.levels = omega arith in
    c.in_ok-write_number.ensures.whole
    ∙ ap (λ (t : List ℕ). c.args.walk.now.text.items ++ (t ++ tasks_text d c.args.walk.now.tasks.items)) (sym (walk_step d c.args.levels c.args.number some))

pub returns-clause-cost : goal.returns-clause-cost
returns-clause-cost c =
    let some : 0 < c.args.levels = omega arith in
    omega (arith, cost_step c.args.design.now c.args.levels c.args.number some, c.in_ok-write_number.ensures.cost)
