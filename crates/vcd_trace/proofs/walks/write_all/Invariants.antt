use Rattle.std.proofs.Common.{◌≡◌}
use Rattle.vcd_trace.specs.Walks.{whole_of, tasks_cost}
use Rattle.vcd_trace.proofs.walks.write_all.Given as goal

abbrev pub invariant-tasks : goal.invariant-tasks
invariant-tasks l = whole_of l.design l.walk ≡ whole_of l.design l.fn.walk

abbrev pub decreases-tasks : goal.decreases-tasks
decreases-tasks l = tasks_cost l.design l.walk.tasks.items
