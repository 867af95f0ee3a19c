use Rattle.std.proofs.Common.{◌≡◌, ◌+◌, ◌-◌, ◌*◌, ◌/◌, ap, ◌∙◌, arith}
use Rattle.timed_queue.specs.Placing.{start_at}
use Rattle.timed_queue.proofs.PlaceLaws.{down_first, down_more, down_last, down_low, unit_fits, start_here, start_none}
use Rattle.timed_queue.proofs.placing.start_of.Goals as goal
use Rattle.timed_queue.proofs.placing.start_of.Goals.{then-down-test+else-left-ge64, else-down-test}

pub down-init : goal.down-init
down-init c = down_first c.args.place c.args.origin

pub down-preserved : goal.down-preserved
down-preserved c = down_more c.args.place c.args.origin c.down.unit c.down.levels c.down.left c.down.high c.down.invariant (omega arith) (omega arith)

pub overflow_mul-unit : goal.overflow_mul-unit
overflow_mul-unit c = omega (
  arith,
  unit_fits c.args.place c.args.origin (c.down.unit * 64) (c.down.levels - 1) (c.down.left - 64) (c.down.high / 64)
      (down_more c.args.place c.args.origin c.down.unit c.down.levels c.down.left c.down.high c.down.invariant (omega arith) (omega arith)),
)

here : (c : goal.After-from) → start_at c.down.levels c.down.left c.down.high ≡ c.down.high / 64 * 64 + c.down.left
here c = elim c.down-test.branch [
  | then-down-test+else-left-ge64 w ↦ start_here c.down.levels c.down.left c.down.high (omega arith)
  | else-down-test w ↦ start_none c.down.levels c.down.left c.down.high (omega arith)
]

pub overflow_add-result : goal.overflow_add-result
overflow_add-result c = omega (arith, c.from.ensures, c.requires, down_low c.args.place c.args.origin c.down.unit c.down.levels c.down.left c.down.high c.down.invariant (here c))

pub returns : goal.returns
returns c = ap (λ x. c.down.unit * (c.down.high / 64 * 64 + x)) c.from.ensures ∙ down_last c.args.place c.args.origin c.down.unit c.down.levels c.down.left c.down.high c.down.invariant (here c)

pub overflow_mul-result-2 : goal.overflow_mul-result-2
overflow_mul-result-2 c = omega (arith, returns c, c.requires)
