use Rattle.std.proofs.Common.{◌<◌, ◌^◌, arith}
use Rattle.std.proofs.lemmas.Nat.{or_lt, xor_lt}
use Rattle.logic_values.proofs.PlaneLemmas.{not_planes}
use Rattle.logic_values.proofs.vectors.not.Goals as goal

pub invariant_of-result-clause-ones_fit : goal.invariant_of-result-clause-ones_fit
invariant_of-result-clause-ones_fit c =
    let a = c.args.a in
    let mask_fits : c.low_mask.result < 2 ^ a.width = omega arith in
    or_lt a.width _ a.unknown (xor_lt a.width a.ones c.low_mask.result a.ones_fit mask_fits) a.unknown_fit

pub returns-clause-each_digit : goal.returns-clause-each_digit
returns-clause-each_digit c = not_planes c.args.a.width c.args.a.unknown c.args.a.ones c.low_mask.result c.low_mask.ensures
