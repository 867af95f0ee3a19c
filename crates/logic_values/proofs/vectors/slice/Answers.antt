use Rattle.std.proofs.Common.{ap, ◌∙◌, ◌≡◌, ◌+◌, ◌-◌, take, drop, arith}
use Rattle.logic_values.specs.Digits.{digits}
use Rattle.logic_values.proofs.PlaneLemmas.{slice_digits}
use Rattle.logic_values.proofs.vectors.slice.Goals as goal

pub returns-clause-each_digit : goal.returns-clause-each_digit
returns-clause-each_digit c =
    let a = c.args.a in
    let width : c.args.high - c.args.low + 1 ≡ c.args.high + 1 - c.args.low = omega arith in
    slice_digits c.args.low (c.args.high - c.args.low + 1) a.width a.unknown a.ones c.low_bits-2.result c.low_bits.result (omega arith) c.low_bits-2.ensures c.low_bits.ensures
    ∙ ap (λ n. take n (drop c.args.low (digits a))) width
